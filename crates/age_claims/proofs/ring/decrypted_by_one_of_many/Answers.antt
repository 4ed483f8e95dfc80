use Rattle.std.proofs.Common.{◌∙◌, ap, refl}
use Rattle.age.specs.Identities.{FirstAnswer, IsFileFor}
use Rattle.age_claims.proofs.Given.{carries_as, given_is}
use Rattle.age_claims.proofs.Outcomes.{want_of}
use Rattle.age_claims.proofs.Rings.{for_all}
use Rattle.age_claims.proofs.ring.decrypted_by_one_of_many.Goals as goal

pub returns-in-Err : goal.returns-in-Err
returns-in-Err g c = λ front back one file plain are carries for over.
    let input = c.new-input.ensures.rest in
    let all : IsFileFor g.S.Suite.seal_of (FirstAnswer g.I.Identity.unwraps c.args.identities.now) plain file =
    rw (← are) at (for_all g.S.Suite.seal_of g.I.Identity.unwraps front one back plain file for over) in
    let carried = carries_as _ _ _ (ap (λ s. s.bytes) input) carries in
    let d = c.in-Err.ensures in
    want_of c.new-given.result c.in-Err.error (d.honest refl (ap (λ s. s.ends_well) input) (λ r. refl) file plain carried all)
    (d.written refl (ap (λ s. s.ends_well) input) (λ r. refl) file plain carried all)

pub returns-in-Ok : goal.returns-in-Ok
returns-in-Ok g c = λ front back one file plain are carries for over.
    let all : IsFileFor g.S.Suite.seal_of (FirstAnswer g.I.Identity.unwraps c.args.identities.now) plain file =
    rw (← are) at (for_all g.S.Suite.seal_of g.I.Identity.unwraps front one back plain file for over) in
    let carried = carries_as _ _ _ (ap (λ s. s.bytes) c.new-input.ensures.rest) carries in
    let got = c.in-Ok.ensures.file refl refl in
    rw c.new-given.ensures.items at got.out
    ∙ given_is g.S.Suite.seal_of c.carried_is_unique.ensures c.one_plaintext.ensures.header c.one_plaintext.ensures.plaintext
    g.I.Identity.unwraps c.args.identities.now _ plain file _ got.plain all carried got.file
