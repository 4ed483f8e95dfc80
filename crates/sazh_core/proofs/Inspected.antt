-- Why what follows a header isn't counted.
use Rattle.std.specs.Prelude.{◌^◌, ◌≤◌, IsTrue, length}
use Rattle.std.proofs.Common.{◌≡◌, ◌⊎◌, ℕ, ◌+◌, ap, arith, inl, inr, subst, sym}
use Rattle.age.specs.Copying.{CopyRefuses, RefusesAll}
use Rattle.age.specs.ErrorVariants.{TooLong}
use Rattle.age.specs.Members.{ReadMembers}
use Rattle.age.specs.Reading.{AddsNoReason, TriedAgain}
use Rattle.age.specs.Refusals.{IsDevice}
use Rattle.age.specs.Types.{Error}
use Rattle.age.specs.Writing.{Retried}
use Rattle.sazh_core.specs.Counting.{CountsTooMany}
use Rattle.sazh_core.specs.Inspecting.{HasReadHeader, RefusesInspection}
use Rattle.sazh_core.specs.declared.counting.Counting.{Counting}
use Rattle.sazh_core.specs.declared.error.InspectionError.TheVariants.{Rest}

-- one that counts isn't interrupted
counted : (w : Counting) (n : ℕ) (e : Error) → Retried CountsTooMany w n e → 2 ^ 64 ≤ w.count + n
counted w n e (inl (patient, (is, long))) = long
counted w n e (inr (other, (is, long))) = absurd (subst (λ x. IsDevice x) is tt)

counted_as : (w : Counting) (n : ℕ) (e : Error) → Retried CountsTooMany w n e → e ≡ TooLong
counted_as w n e (inl (patient, (is, long))) = is
counted_as w n e (inr (other, (is, long))) = absurd (subst (λ x. IsDevice x) is tt)

-- copying what follows the header, from where the reader stands behind it, was refused
pub rest_refused : {T : Type 0} (read : ReadMembers T) (text behind : T) (w : Counting) (count : ℕ) (why : Error) → w.count ≡ 0
    → AddsNoReason (TriedAgain read.refuses) text behind → read.tells behind ≡ read.tells text
    → (IsTrue (read.tells text) → (front : HasReadHeader read text count) × (front.rest ≡ (read.rest behind).bytes))
    → CopyRefuses (TriedAgain read.refuses behind) (RefusesAll CountsTooMany w (IsTrue (read.tells behind)) (length (read.rest behind).bytes)) why
    ⊎ ((why ≡ TooLong) × (IsTrue (read.tells behind) → ⊥))
    → RefusesInspection read text (Rest count why)
rest_refused read text behind w count why zero narrows tells front (inl (inl none)) = (inl none, λ told. (front told).0)
rest_refused read text behind w count why zero narrows tells front (inl (inr (inl reads))) = (inr (inr (narrows why reads)), λ told. (front told).0)
rest_refused read text behind w count why zero narrows tells front (inl (inr (inr ((n, some), all)))) = (
  inr (inl (
    counted_as w n why some,
    λ told.
        let long = counted w (length (read.rest behind).bytes) why (all (subst (λ b. IsTrue b) (sym tells) told)) in
        ((front told).0, Prim.omega (arith, long, zero, ap (λ l. length l) (front told).1)),
  )),
  λ told. (front told).0,
)
rest_refused read text behind w count why zero narrows tells front (inr (is, silent)) =
    (inr (inl (is, λ told. absurd (silent (subst (λ b. IsTrue b) (sym tells) told)))), λ told. (front told).0)
