-- What opened is 16 bytes shorter than its text.
use Rattle.std.specs.Prelude.{◌≡◌, ℕ, ◌+◌, Option, Some, None, Result, Ok, Err, IfOk, IfSome, Bool, List, length, option_map}
use Rattle.std.proofs.Common.{sym}
use Rattle.age_error.specs.Bytes.{AreBytes}
use Rattle.age_v1.specs.Payload.{chunk_nonce}
use Rattle.age_v1.proofs.OpenedTexts.{Shorter}

module _ (opened : List ℕ → List ℕ → List ℕ → Option (List ℕ)) (key : List ℕ) (law : Shorter opened key) where
  lengths-option : {V : Type 0} (items : V → List ℕ) (number : ℕ) (last : Bool) (text : List ℕ) → AreBytes text → (o : Option V) →
      option_map items o ≡ opened key (chunk_nonce number last) text → IfSome o (λ v. length (items v) + 16 ≡ length text)
  lengths-option items number last text bytes None is = tt
  lengths-option items number last text bytes (Some v) is = law number last text (items v) bytes (sym is)

  pub lengths-opened : {V E : Type 0} (items : V → List ℕ) (number : ℕ) (last : Bool) (text : List ℕ) → AreBytes text → (r : Result (Option V) E) →
      IfOk r (λ o. option_map items o ≡ opened key (chunk_nonce number last) text) → IfOk r (λ o. IfSome o (λ v. length (items v) + 16 ≡ length text))
  lengths-opened items number last text bytes (Err e) is = tt
  lengths-opened items number last text bytes (Ok o) is = lengths-option items number last text bytes o is
