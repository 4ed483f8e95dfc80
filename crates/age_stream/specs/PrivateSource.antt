-- What is asked of the reader that a payload comes from.
use Rattle.std.specs.Prelude.{◌≡◌, ◌≢◌, ℕ, ◌+◌, ◌<◌, ◌≤◌, IsTrue, take}
use Rattle.age_error.specs.declared.io.Error.{Error}
use Rattle.age_error.specs.declared.io.Error.TheVariants.{OutOfMemory}
use Rattle.age_io.specs.declared.traits.Read.{Ghosts}
use Rattle.age_io.specs.Cursor.{IsOutside}
use Rattle.age_io.specs.Stretch.{from_place}
use Rattle.age_io.specs.Reading.{IsQuiet, most_faults}
use Rattle.age_io.specs.Turns.{GivesTried}
use Rattle.age_stream.specs.declared.source.Source.{Source}
use Rattle.age_stream.specs.Reading.{payload_from, tells_from, TookFromInner}

module _ {R : Type 0} {read : Ghosts R} where
  -- So many bytes were taken of it, which are in front of the room for a sealed chunk.
  pub record TakesBytes (asked : ℕ) (old new : Source R read) (count : ℕ) : Type 0 where
    pub unspent : read.faults new.inner < most_faults
    pub most : count ≤ asked
    pub turns : GivesTried read asked (take count new.room.items) old.inner new.inner
    pub took : IsTrue (read.tells old.inner) → TookFromInner asked (read.rest old.inner) (read.rest new.inner) (take count new.room.items)
    pub moves : IsTrue (tells_from old) → (read.place new.inner ≡ read.place old.inner + count) × (new.taken ≡ old.taken + count)

  -- It stands at a place of the payload.
  pub record IsPlaced (old new : Source R read) (place : ℕ) : Type 0 where
    pub unspent : read.faults new.inner < most_faults
    pub taken : IsTrue (tells_from old) → new.taken ≡ place
    pub rest : IsTrue (tells_from old) → read.rest new.inner ≡ from_place place (payload_from old)

  -- It wasn't found, or isn't put in its place, and not for a target that is outside. No payload that ends well is a cause.
  pub record RefusesPlace (old new : Source R read) (e : Error) : Type 0 where
    pub refusal : IsOutside e → ⊥
    pub cause : IsTrue (tells_from old) → IsTrue (payload_from old).ends_well → e ≢ OutOfMemory
        → IsQuiet (read.faults old.inner) (read.faults new.inner) → ⊥
