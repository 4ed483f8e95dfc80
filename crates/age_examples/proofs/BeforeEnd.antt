-- A seek to a place of the plaintext isn't one to its end.
use Rattle.std.specs.Prelude.{◌≡◌, ℕ, ◌^◌, Bool, true, false, Some, Result, Ok, Err, length, nat_le, if◌then◌else◌}
use Rattle.std.proofs.Common.{◌∙◌, arith, subst, sym}
use Rattle.age.specs.Types.{Error}
use Rattle.age.specs.ErrorVariants.{TooLong}
use Rattle.age.specs.SeekFromVariants.{Start}
use Rattle.age.specs.Cursor.{sought}
use Rattle.age.specs.Stretch.{Stretch}
use Rattle.age.specs.PayloadTargets.{in_length, IsToEnd}
use Rattle.age_examples.specs.Turns.{HasPlace}
use Rattle.age_examples.proofs.Places.{start_is}

some_same : (a b : ℕ) → Some a ≡ Some b → a ≡ b
some_same a b is = Prim.cc

in_limit : (within : Bool) (answer : Result ℕ Error) (n : ℕ) → ◌≡◌ {A = Result ℕ Error} (if within then answer else Err TooLong) (Ok n)
    → answer ≡ Ok n
in_limit true answer n is = is
in_limit false answer n is = absurd (Prim.cc)

pub before_end : (payload : Stretch) (place old : ℕ) → HasPlace payload place → IsToEnd (length payload.bytes) (Start place) old → ⊥
before_end payload place old has end =
    let there = subst (λ o. in_length o (Start place) old ≡ Ok end.len) has.plain end.target in
    let at = start_is place has.len end.len (in_limit (nat_le has.len (2 ^ 60)) (sought (Start place) old has.len) end.len there) in
    let same = some_same has.len end.len (sym has.plain ∙ end.plain) in
    omega (arith, at, same, has.inside)
