use Rattle.std.proofs.Common.{ap}
use Rattle.age.specs.DecryptErrors.{decrypt_refusal}
use Rattle.age.specs.DeliveredArmor.{stretch_of}
use Rattle.age_claims.proofs.Refused.{no_success, refused_so, both_ways}
use Rattle.age_claims.proofs.others.refused_as_answered.Goals as goal

pub returns : goal.returns
returns g c = λ key stanzas plain file this why carries f is each.
    let seal_of = g.S.Suite.seal_of in
    let unwraps = g.I.Identity.unwraps in
    both_ways _ _ _ c.decrypt.result c.decrypt.ensures.success c.decrypt.ensures.refused
    (λ given d. no_success seal_of unwraps c.args.identity.now _ c.args.text.now file plain key stanzas f this why is each c.carried_is_unique.ensures
    c.one_plaintext.ensures.header carries given.items d)
    (λ e. refused_so seal_of unwraps c.args.identity.now _ c.args.text.now file plain key stanzas f this why is each c.header_text_reads_back.ensures
    c.verdict_is_unique.ensures
    (ap stretch_of (c.carried_is_delivered.ensures c.args.text.now file carries)) (decrypt_refusal e))
