use Rattle.std.proofs.Common.{◌∙◌, ap, refl}
use Rattle.std.specs.Prelude.{◌*◌, take}
use Rattle.std.proofs.lemmas.Result.{on_ok_weaker}
use Rattle.age.specs.DeliveredArmor.{text_delivers, stretch_of}
use Rattle.age.specs.Identities.{FirstAnswer, GivesFirst}
use Rattle.age.specs.Payload.{payload, payload_key}
use Rattle.age_claims.proofs.Changed.{behind, given_key}
use Rattle.age_claims.proofs.CutFiles.{never_whole}
use Rattle.age_claims.proofs.CutStreams.{of_cut, nothing_or}
use Rattle.age_claims.proofs.Given.{carries_as}
use Rattle.age_claims.proofs.Lengthened.{payload_key-bytes}
use Rattle.age_claims.proofs.longer.decrypted_up_to_the_cut.Goals as goal

pub returns-clause-front : goal.returns-clause-front
returns-clause-front g c = λ writer_told file plain n for fewer carries.
    let seal_of = g.S.Suite.seal_of in
    let unwraps = g.I.Identity.unwraps in
    let input = c.new-input.ensures.rest in
    nothing_or g.W.Write.appended c.args.writer.now c.decrypt_all.new.writer (take (65536 * n) plain)
    (g.met.W.Write.appends_nothing c.args.writer.now)
    (of_cut g.W.Write.appended c.args.writer.now c.decrypt_all.new.writer seal_of g.S.Suite.opened c.delivery_laws.ensures.cut_payload
    c.front_reads_back.ensures (FirstAnswer unwraps c.args.identities.now) (GivesFirst unwraps c.args.identities.now c.decrypt_all.new.identities)
    plain file for
    (given_key seal_of unwraps plain file c.args.identities.now c.decrypt_all.new.identities for) n fewer _ _
    (ap (λ s. stretch_of (text_delivers s.bytes s.ends_well)) input ∙ ap stretch_of (c.carried_is_delivered.ensures c.args.text.now _ carries))
    (λ h nonce left b. (b.place, b.front refl)))
    (c.decrypt_all.ensures.front refl writer_told)

pub returns-clause-refused : goal.returns-clause-refused
returns-clause-refused g c = λ writer_told file plain n for fewer apart carries.
    let seal_of = g.S.Suite.seal_of in
    let unwraps = g.I.Identity.unwraps in
    let key = payload_key for.file_key for.is_file.nonce in
    let carried = carries_as _ _ _ (ap (λ s. s.bytes) c.new-input.ensures.rest) carries in
    on_ok_weaker c.decrypt_all.result
    (λ got. never_whole seal_of g.S.Suite.opened c.delivery_laws.ensures.payload_opens c.delivery_laws.ensures.cut_payload
    c.payload_laws.ensures.length
    key plain got.plain n (payload_key-bytes for.file_key for.is_file.nonce) for.bytes got.file.bytes for.within fewer g.met.S.Suite.cipher apart
    (behind seal_of (FirstAnswer unwraps c.args.identities.now) (GivesFirst unwraps c.args.identities.now c.decrypt_all.new.identities) _ file plain
    (take (65552 * n) (payload seal_of key plain)) got.plain for
    (given_key seal_of unwraps plain file c.args.identities.now c.decrypt_all.new.identities for)
    c.header_text_reads_back.ensures c.verdict_is_unique.ensures c.carried_is_unique.ensures carried got.file))
    (c.decrypt_all.ensures.file refl writer_told)
