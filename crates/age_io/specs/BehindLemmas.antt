-- The laws of a reader with a buffer.
use Rattle.std.specs.Prelude.{◌≡◌, ℕ, ◌-◌, ◌≤◌, ◌<◌, Bool, true, false, List, [], length, take, ◌⊎◌, refl}
use Rattle.std.proofs.Common.{arith, inl, inr}
use Rattle.std.proofs.lemmas.Bool.{cases_lt}
use Rattle.std.proofs.lemmas.List.{drop_all, length-take-le}
use Rattle.age_io.specs.Stretch.{Stretch, nothing, from_place}
use Rattle.age_io.specs.Reading.{StandsIn, most_faults}
use Rattle.age_io.specs.Buffering.{held, rest_behind}

-- an empty buffer holds nothing
pub held-empty : (buffer : List ℕ) (given filled : ℕ) → filled ≤ length buffer → filled ≤ given → held buffer given filled ≡ []
held-empty buffer given filled within empty =
    let short : length (take filled buffer) ≡ filled = length-take-le filled buffer within in
    drop_all given (take filled buffer) (omega arith)

reaches_behind : (content rest : Stretch) (place : ℕ) (buffer : List ℕ) (given filled : ℕ) (failed : Bool) →
    filled ≤ length buffer → given ≤ filled → StandsIn content place rest →
    (failed ≡ false → given < filled → rest_behind false (held buffer given filled) rest ≡ from_place (place - (filled - given)) content) →
    (rest_behind failed (held buffer given filled) rest ≡ from_place (place - (filled - given)) content)
    ⊎ (rest_behind failed (held buffer given filled) rest ≡ nothing)
reaches_behind content rest place buffer given filled true within order stands follows = inr refl
reaches_behind content rest place buffer given filled false within order stands follows =
    elim (cases_lt given filled) [
      | inl some ↦ inl (follows refl some)
      | inr none ↦
          let empty = held-empty buffer given filled within none in
          let back : place - (filled - given) ≡ place = omega arith in
          rw (empty, back) stands.reaches
    ]

-- a reader with a buffer stands in the content of a steady inner reader
pub stands_behind : (content rest : Stretch) (place : ℕ) (buffer : List ℕ) (given filled : ℕ) (failed : Bool) →
    filled ≤ length buffer → given ≤ filled → StandsIn content place rest →
    (failed ≡ false → given < filled → rest_behind false (held buffer given filled) rest ≡ from_place (place - (filled - given)) content) →
    StandsIn content (place - (filled - given)) (rest_behind failed (held buffer given filled) rest)
stands_behind content rest place buffer given filled failed within order stands follows = record {
  within = omega (arith, stands.within);
  reaches = reaches_behind content rest place buffer given filled failed within order stands follows;
}

-- a reader with a buffer has failed once the count of faults is used up, since it holds nothing then
pub spent_behind : (rest : Stretch) (faults : ℕ) (buffer : List ℕ) (given filled : ℕ) (failed : Bool) → filled ≤ length buffer →
    (failed ≡ false → given < filled → faults < most_faults) → faults ≡ most_faults → rest ≡ nothing →
    rest_behind failed (held buffer given filled) rest ≡ nothing
spent_behind rest faults buffer given filled true within unspent spent gone = refl
spent_behind rest faults buffer given filled false within unspent spent gone =
    elim (cases_lt given filled) [
      | inl some ↦ absurd (omega (arith, unspent refl some, spent))
      | inr none ↦ rw (held-empty buffer given filled within none, gone) refl
    ]
