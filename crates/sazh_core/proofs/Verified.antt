-- What was measured of a file that was decrypted.
use Rattle.std.specs.Prelude.{Ok, Err, IsOk, IsTrue}
use Rattle.std.proofs.Common.{◌≡◌, List, ℕ, [], inl, inr, refl, subst}
use Rattle.std.proofs.lemmas.Bool.{false≢true}
use Rattle.age.specs.Members.{SuiteMembers, ReadMembers, WriteMembers}
use Rattle.age.specs.Stanza.{StanzaValue}
use Rattle.age.specs.Identities.{UnwrapAnswer}
use Rattle.sazh_core.specs.Given.{DecryptsBy, VerifiesFile}
use Rattle.sazh_core.specs.Measuring.{IsMeasured, TookBytes, WasGiven}
use Rattle.sazh_core.specs.declared.callbacks.GivesOnce.{GivesOnce}
use Rattle.sazh_core.specs.declared.holder.Holder.{Holder}
use Rattle.sazh_core.specs.declared.keyring.Keyring.{Keyring}
use Rattle.sazh_core.specs.declared.measuring.Measured.{Measured}
use Rattle.sazh_core.specs.declared.measuring.Measuring.{Measuring}

ok_is_no_error : {A E : Type 0} (x : A) (e : E) → Ok x ≡ Err e → ⊥
ok_is_no_error x e is = false≢true (subst (λ r. IsOk r) is refl)

pub verified : {S T R : Type 0} (unwraps : Holder S T GivesOnce → List StanzaValue → UnwrapAnswer → Holder S T GivesOnce → Type 0)
    (suite : SuiteMembers S)
    (text_read : ReadMembers T) (write : WriteMembers Measuring) (given : Keyring) (read : ReadMembers R) (input last : R) (old new : Measuring)
    (v : Unit {0})
    (measured : Measured) → ((w : Measuring) → IsTrue (write.tells w)) → ((x : List ℕ) → write.appended old x new → TookBytes old x new)
    → WasGiven old [] → ((text : List ℕ) → WasGiven new text → IsMeasured measured text)
    → DecryptsBy unwraps suite text_read write given read input last old new (Ok v)
    → VerifiesFile unwraps suite text_read write given read input (Ok measured)
verified unwraps suite text_read write given read input last old new v measured tells took none measures (inl (e, is, refuses, untouched)) =
    absurd (ok_is_no_error _ _ is)
verified unwraps suite text_read write given read input last old new v measured tells took none measures (inr (who, are, (Err e, does, answers))) =
    elim answers [
      | inl (is, none) ↦ absurd (ok_is_no_error _ _ is)
      | inr (none, is, has) ↦ absurd (ok_is_no_error _ _ is)
    ]
verified unwraps suite text_read write given read input last old new v measured tells took none measures
    (inr ((holders, asked), are, (Ok done, (steps, file, refused), answers))) = λ told.
    let gave = file told tells in
    let carried = gave.file in
    let measure = measures gave.plain (took gave.plain gave.out [] none) in (
      holders,
      asked,
      are,
      (
        carried.file_key,
        carried.stanzas,
        gave.plain,
        carried.carried,
        carried.given,
        gave.ended,
        carried.carries,
        carried.is_file,
        measure,
      ),
    )
