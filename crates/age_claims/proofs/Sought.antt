-- Where a seek in a payload leads that is reckoned from the front, and why it is refused.
use Rattle.std.specs.Prelude.{◌≡◌, ℕ, ◌≤◌, ◌^◌, Bool, true, false, Option, None, Some, Result, Ok, Err, length, nat_le, if◌then◌else◌}
use Rattle.std.proofs.Common.{refl, sym, subst, leb-true}
use Rattle.age.specs.Cursor.{IsOutside, moved_to}
use Rattle.age.specs.ErrorVariants.{PastEnd, TooLong}
use Rattle.age.specs.Parts.{EndsBefore}
use Rattle.age.specs.Payload.{plain_len}
use Rattle.age.specs.PayloadTargets.{in_length, sought_in}
use Rattle.age.specs.Reading.{TriedAgain}
use Rattle.age.specs.SeekFromVariants.{Start}
use Rattle.age.specs.Stretch.{Stretch}
use Rattle.age.specs.Types.{Error}
use Rattle.age.proofs.Parts.{ends_before}
use Rattle.age_claims.specs.Claims.{ReachesPlace}

by_place : (within : Bool) (place start : ℕ) → ◌≡◌ {A = Result ℕ Error} (if within then Ok place else Err PastEnd) (Ok start) → within ≡ true
by_place true place start is = refl
by_place false place start is = absurd (Prim.cc)

by_limit : (fits : Bool) (place len start : ℕ) → ◌≡◌ {A = Result ℕ Error} (if fits then moved_to (Some place) len else Err TooLong) (Ok start)
    → place ≤ len
by_limit true place len start is = leb-true place len (by_place (nat_le place len) place start is)
by_limit false place len start is = absurd (Prim.cc)

by_length : (plain : Option ℕ) (place stood start : ℕ) → in_length plain (Start place) stood ≡ Ok start
    → (len : ℕ) × (plain ≡ Some len) × (place ≤ len)
by_length None place stood start is = absurd (Prim.cc)
by_length (Some len) place stood start is = (len, refl, by_limit (nat_le len (2 ^ 60)) place len start is)

-- it leads to a place that the plaintext has by the payload's length, or to its end
pub leads_inside : (sealed : Stretch) (place stood start : ℕ) → sought_in (Start place) stood (length sealed.bytes) ≡ Ok start
    → ReachesPlace place sealed
leads_inside sealed place stood start is =
    let (len, plain, inside) = by_length (plain_len (length sealed.bytes)) place stood start is in
    record { len = len; plain = plain; inside = inside }

-- it is refused with `PastEnd` only where the plaintext ends before the place
pub refused_outside : {R : Type 0} (refuses : R → Error → Type 0) (inner : R) (sealed : Stretch) (place stood : ℕ) (e : Error)
    → (IsOutside e → (TriedAgain refuses inner e → ⊥) → sought_in (Start place) stood (length sealed.bytes) ≡ Err e)
    → (TriedAgain refuses inner PastEnd → ⊥) → e ≡ PastEnd → EndsBefore place sealed
refused_outside refuses inner sealed place stood e says silent is =
    let outside : IsOutside e = subst IsOutside (sym is) tt in
    (ends_before sealed place stood e outside (says outside (λ own. silent (subst (λ x. TriedAgain refuses inner x) is own)))).1
