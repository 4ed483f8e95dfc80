use Rattle.std.proofs.Common.{◌∙◌, Some, Err, length, ap, refl}
use Rattle.age.specs.Encrypting.{Prepares}
use Rattle.age_claims.proofs.Given.{carries_as}
use Rattle.age_claims.proofs.Outcomes.{match_weaker, want_back}
use Rattle.age_claims.proofs.Written.{slice_replies}
use Rattle.age_claims.proofs.place.slice_of.Goals as goal

pub returns-in-Err : goal.returns-in-Err
returns-in-Err g c = λ one only belongs apart inside. c.in-Err.ensures.refused

pub returns : goal.returns
returns g c = λ one only belongs apart inside.
    let wrote = c.in-Ok.ensures.text one belongs apart in
    let input = c.new.ensures.rest in
    let carries = carries_as _ _ _ (ap (λ s. s.bytes) input ∙ c.deref.ensures.value) wrote.carries in
    match_weaker _ _ _ _ c.answers.result
    (c.answers.ensures.cursor refl (ap (λ s. s.ends_well) input) (λ r. refl) _ _ carries (rw (← only) at wrote.is_for))
    (λ a h none. h none ∙ slice_replies c.args.place c.args.count c.args.plain.now inside)
    (want_back (λ refusal. Prepares g.T.Recipient.wraps c.args.recipients.now (Some c.args.grease) c.args.draw.now (Err refusal) c.text_for.new.draw)
    (length c.args.plain.now))
