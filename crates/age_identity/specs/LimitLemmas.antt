-- The laws of a reader with a limit.
use Rattle.std.specs.Prelude.{◌≡◌, ℕ, ◌+◌, ◌≤◌, ◌<◌, ◌^◌, Bool, true, false, ◌&&◌, IsTrue, nat_le, length, drop, ◌⊎◌, refl}
use Rattle.std.proofs.Common.{arith, inl, inr, ap, ◌∙◌, sym, length-take, length-drop}
use Rattle.std.proofs.Math.Seq.{take-nil}
use Rattle.std.proofs.lemmas.List.{drop-take}
use Rattle.std.proofs.lemmas.List.Elements.{All-take}
use Rattle.std.proofs.lemmas.Bool.{cases_lt, le-leb, lt-leb}
use Rattle.age_error.specs.Bytes.{AreBytes}
use Rattle.age_io.specs.Stretch.{Stretch, nothing, from_place, stretch-ext}
use Rattle.age_io.specs.Reading.{StandsIn}
use Rattle.age_identity.specs.Limiting.{limited, rest_within, place_within}

-- two comparisons of which one holds where the other does
pub le_same : (a b c d : ℕ) → (a ≤ b → c ≤ d) → (b < a → d < c) → nat_le a b ≡ nat_le c d
le_same a b c d within past =
    elim (cases_lt b a) [
      | inl over ↦ lt-leb a b over ∙ sym (lt-leb c d (past over))
      | inr fits ↦ le-leb a b fits ∙ sym (le-leb c d (within fits))
    ]

-- of nothing there is nothing within a limit
pub limited_nothing : (left : ℕ) → limited left nothing ≡ nothing
limited_nothing left = stretch-ext _ _ (take-nil left) refl

-- a reader whose inner reader has nothing left has nothing left
pub spent_within : (rest : Stretch) (left : ℕ) (past : Bool) → rest ≡ nothing → rest_within past left rest ≡ nothing
spent_within rest left true gone = refl
spent_within rest left false gone = ap (limited left) gone ∙ limited_nothing left

both : (a b : Bool) → IsTrue (a && b) → IsTrue a
both true b is = refl
both false b is = is

-- what ends well within a limit ends well
pub well_within : (limit : ℕ) (s : Stretch) → IsTrue (limited limit s).ends_well → IsTrue s.ends_well
well_within limit s well = both s.ends_well (nat_le (length s.bytes) limit) well

-- the place is no further than that of the inner reader
pub place_behind : (past : Bool) (place : ℕ) → place_within past place ≤ place
place_behind true place = omega arith
place_behind false place = omega arith

pub place_fits_within : (past : Bool) (place : ℕ) → place < 2 ^ 63 → place_within past place < 2 ^ 63
place_fits_within past place fits = omega (arith, place_behind past place)

within_limit : (content : Stretch) (place left : ℕ) → place ≤ length content.bytes → place ≤ length (limited (place + left) content).bytes
within_limit content place left within = omega (arith, length-take (place + left) content.bytes)

-- what stands within the limit from the place on is what is left of what stands from there on
pub limited_from : (content : Stretch) (place left : ℕ) → place ≤ length content.bytes →
    limited left (from_place place content) ≡ from_place place (limited (place + left) content)
limited_from content place left within =
    stretch-ext _ _ (sym (drop-take place left content.bytes))
    (ap (λ b. content.ends_well && b) (le_same (length (drop place content.bytes)) left (length content.bytes) (place + left)
    (λ fits. omega (arith, length-drop place content.bytes, fits)) (λ over. omega (arith, length-drop place content.bytes, over))))

reaches_within : (content rest : Stretch) (place left : ℕ) (past : Bool) → place ≤ length content.bytes →
    (rest ≡ from_place place content) ⊎ (rest ≡ nothing) →
    (rest_within past left rest ≡ from_place (place_within past place) (limited (place_within past place + left) content))
    ⊎ (rest_within past left rest ≡ nothing)
reaches_within content rest place left true within reaches = inr refl
reaches_within content rest place left false within reaches =
    elim reaches [
      | inl here ↦ inl (ap (limited left) here ∙ limited_from content place left within)
      | inr gone ↦ inr (ap (limited left) gone ∙ limited_nothing left)
    ]

-- it stands in the content of a steady inner reader up to its limit
pub stands_within : (content rest : Stretch) (place left : ℕ) (past : Bool) → StandsIn content place rest →
    StandsIn (limited (place_within past place + left) content) (place_within past place) (rest_within past left rest)
stands_within content rest place left past stands = record {
  within = within_limit content (place_within past place) left (omega (arith, place_behind past place, stands.within));
  reaches = reaches_within content rest place left past stands.within stands.reaches;
}

pub bytes_within : (limit : ℕ) (s : Stretch) → AreBytes s.bytes → AreBytes (limited limit s).bytes
bytes_within limit s bytes = All-take (λ x. x < 2 ^ 8) limit s.bytes bytes

pub short_within : (limit : ℕ) (s : Stretch) → length s.bytes < 2 ^ 63 → length (limited limit s).bytes < 2 ^ 63
short_within limit s short = omega (arith, length-take limit s.bytes, short)
