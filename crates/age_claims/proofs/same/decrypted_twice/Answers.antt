use Rattle.std.proofs.Common.{◌∙◌, [], ◌∷◌, Some, Ok, sym, ap, refl}
use Rattle.age.specs.Identities.{Unwraps, GivesFirst}
use Rattle.age_claims.proofs.Alone.{alone}
use Rattle.age_claims.proofs.Given.{carries_as, same_plain}
use Rattle.age_claims.proofs.same.decrypted_twice.Goals as goal

pub returns-in-Ok-decrypt_all : goal.returns-in-Ok-decrypt_all
returns-in-Ok-decrypt_all g c = λ only one_key.
    let unwraps = g.I.Identity.unwraps in
    let a = c.in-Ok.ensures.success in
    let appended = c.in-Ok-decrypt_all.ensures.file refl refl in
    let b = appended.file in
    let first : GivesFirst unwraps c.args.others.now (_ ∷ []) a.file_key a.stanzas =
    rw (← only) at (alone (λ identity own next. Unwraps unwraps identity a.stanzas own next) c.args.one.now (Some (Ok a.file_key)) _ a.given) in
    same_plain g.S.Suite.seal_of c.carried_is_unique.ensures c.one_plaintext.ensures.header c.one_plaintext.ensures.plaintext
    a.file_key b.file_key a.stanzas b.stanzas _ appended.plain c.args.file.now a.carried b.carried a.carries
    (carries_as _ _ _ (sym (ap (λ s. s.bytes) c.new-text.ensures.rest)) b.carries) a.is_file b.is_file a.bytes b.bytes
    (λ same. one_key b.stanzas a.file_key b.file_key _ _ (rw same at first) b.given)
    ∙ sym (rw c.new-second.ensures.items at appended.out)
