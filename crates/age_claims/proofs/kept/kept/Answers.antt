use Rattle.std.proofs.Common.{◌∙◌, Some, Err, length, ap, refl}
use Rattle.age.specs.Encrypting.{Prepares}
use Rattle.age_claims.proofs.Given.{carries_as, given_is}
use Rattle.age_claims.proofs.Outcomes.{want_of, want_back}
use Rattle.age_claims.proofs.kept.kept.Goals as goal

pub returns-in-Err : goal.returns-in-Err
returns-in-Err g c = λ one only belongs apart. c.in-Err.ensures.refused

pub returns-in-Err-decrypt_all : goal.returns-in-Err-decrypt_all
returns-in-Err-decrypt_all g c = λ one only belongs apart.
    let wrote = c.in-Ok.ensures.text one belongs apart in
    let input = c.new-text.ensures.rest in
    let carries = carries_as _ _ _ (ap (λ s. s.bytes) input ∙ c.deref.ensures.value) wrote.carries in
    let for = rw (← only) at wrote.is_for in
    let d = c.in-Err-decrypt_all.ensures in
    want_back (λ refusal. Prepares g.T.Recipient.wraps c.args.recipients.now (Some c.args.grease) c.args.draw.now (Err refusal) c.text_for.new.draw)
    (length c.args.plain.now) c.in-Err-decrypt_all.error
    (want_of c.new-given.result c.in-Err-decrypt_all.error (d.honest refl (ap (λ s. s.ends_well) input) (λ r. refl) _ _ carries for)
    (d.written refl (ap (λ s. s.ends_well) input) (λ r. refl) _ _ carries for))

pub returns : goal.returns
returns g c = λ one only belongs apart.
    let wrote = c.in-Ok.ensures.text one belongs apart in
    let carries = carries_as _ _ _ (ap (λ s. s.bytes) c.new-text.ensures.rest ∙ c.deref.ensures.value) wrote.carries in
    let got = c.in-Ok-decrypt_all.ensures.file refl refl in
    rw c.new-given.ensures.items at got.out
    ∙ given_is g.S.Suite.seal_of c.carried_is_unique.ensures c.one_plaintext.ensures.header c.one_plaintext.ensures.plaintext
    g.I.Identity.unwraps c.args.identities.now _ _ _ _ got.plain (rw (← only) at wrote.is_for) carries got.file
