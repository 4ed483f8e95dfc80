use Rattle.std.specs.Prelude.{◌*◌, take}
use Rattle.std.proofs.lemmas.Result.{IfOk-weaker}
use Rattle.age.specs.Payload.{payload, payload_key}
use Rattle.age_claims.proofs.Changed.{behind_front}
use Rattle.age_claims.proofs.CutFiles.{never_whole}
use Rattle.age_claims.proofs.Lengthened.{payload_key-bytes}
use Rattle.age_claims.proofs.longer.cut_between_chunks.Goals as goal

pub returns : goal.returns
returns g c = λ file plain n for fewer apart carries.
    let seal_of = g.S.Suite.seal_of in
    let key = payload_key for.file_key for.is_file.nonce in
    IfOk-weaker c.decrypt.result _ _
    (λ given d. never_whole seal_of g.S.Suite.opened c.delivery_laws.ensures.payload_opens c.delivery_laws.ensures.cut_payload
    c.payload_laws.ensures.length
    key plain given.items n (payload_key-bytes for.file_key for.is_file.nonce) for.bytes d.bytes for.within fewer g.met.S.Suite.cipher apart
    (behind_front seal_of g.I.Identity.unwraps c.args.identity.now c.decrypt.new.identity c.args.text.now file plain
    (take (65552 * n) (payload seal_of key plain))
    given.items for c.header_text_reads_back.ensures c.verdict_is_unique.ensures c.carried_is_unique.ensures carries d))
    c.decrypt.ensures.success
