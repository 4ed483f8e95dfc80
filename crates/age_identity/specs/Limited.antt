-- What a caller sees of a `LimitedReader`, and what it means as a reader.
use Rattle.std.specs.Prelude.{◌≡◌, ℕ, ◌+◌, ◌≤◌, ◌<◌, ◌⊎◌, Bool, true, false, IsTrue, List, length, take, Result, Err, IfOk, IfErr, ⊤}
use Rattle.age_error.specs.declared.io.Error.{Error}
use Rattle.age_error.specs.declared.io.Error.TheVariants.{LimitExceeded}
use Rattle.age_io.specs.Stretch.{Stretch}
use Rattle.age_io.specs.Reading.{Reads}
use Rattle.age_io.specs.declared.traits.Read.{Ghosts}
use Rattle.age_identity.specs.declared.util.LimitedReader.{LimitedReader}
use Rattle.age_identity.specs.Limiting.{limited, rest_within, place_within}

module _ {R : Type 0} where
  -- the reader that it reads from
  abbrev pub inner_of : LimitedReader R → R
  inner_of r = r.inner

  -- how many bytes it may give yet
  abbrev pub left_of : LimitedReader R → ℕ
  left_of r = r.left

  -- whether it met a byte past its limit, and so answers `LimitExceeded` to every read
  abbrev pub is_past : LimitedReader R → Bool
  is_past r = r.past

  module _ (read : Ghosts R) where
    -- how many bytes of the inner reader's content stand before the next read
    abbrev pub place_of : LimitedReader R → ℕ
    place_of r = place_within r.past (read.place r.inner)

    -- the inner reader's content up to the limit
    abbrev pub content_of : LimitedReader R → Stretch
    content_of r = limited (place_of r + r.left) (read.content r.inner)

    -- what its reads can still deliver
    abbrev pub rest_of : LimitedReader R → Stretch
    rest_of r = rest_within r.past r.left (read.rest r.inner)

    -- a byte stands past its limit, where the inner reader tells its bytes
    abbrev pub MeetsLimit : LimitedReader R → Type 0
    MeetsLimit r = (r.past ≡ true) ⊎ (IsTrue (read.tells r.inner) → r.left < length (read.rest r.inner).bytes)

    -- with `LimitExceeded` where a byte stands past its limit, else as the inner reader does
    abbrev pub refuses_of : LimitedReader R → Error → Type 0
    refuses_of r e = ((e ≡ LimitExceeded) × MeetsLimit r) ⊎ read.refuses r.inner e

    -- all of them
    abbrev pub limited_reader : Ghosts (LimitedReader R)
    limited_reader = record {
      tells = λ r. read.tells r.inner;
      steady = λ r. read.steady r.inner;
      content = content_of;
      place = place_of;
      rest = rest_of;
      faults = λ r. read.faults r.inner;
      refuses = refuses_of;
      read_besides = λ _ _ _ _ _. ⊤;
    }

-- What a call says of the limit besides what it says as a reader, where it gave so many bytes.
pub record Limits {R A : Type 0} (refuses : R → Error → Type 0) (given : A → ℕ) (old new : LimitedReader R) (result : Result A Error) : Type 0 where
  -- past its limit it stays as it is
  pub still : IsTrue (is_past old) → new ≡ old
  pub exceeded : IsTrue (is_past new) → result ≡ Err LimitExceeded
  -- it came past it right at its limit
  pub met : IsTrue (is_past new) → is_past old ≡ false → left_of old ≡ 0
  -- what it gives counts
  pub counts : IfOk result (λ x. left_of new + given x ≡ left_of old)
  pub keeps : IfErr result (λ e. left_of new ≡ left_of old)
  -- within it, it hands on what the inner reader refuses with
  pub hands_on : is_past new ≡ false → IfErr result (refuses (inner_of old))

-- What a read says of the inner reader: it read into a part of the buffer, or into room of its own where nothing was given.
pub record ReadsWithin {R : Type 0} (read : Ghosts R) (refuses : R → Error → Type 0) (old new : R) (buf : List ℕ)
    (result : Result ℕ Error) : Type 0 where
  pub part : List ℕ
  pub some : 0 < length part
  pub same : IfOk result (λ n. take n buf ≡ take n part)
  pub reads : Reads read.tells read.steady read.content read.place read.rest read.faults refuses old new part result

-- A byte past the limit was met: the reader stood at its limit, and its inner reader had that byte.
pub record Meets {R : Type 0} (read : Ghosts R) (old new : LimitedReader R) (result : Result ℕ Error) : Type 0 where
  pub answer : result ≡ Err LimitExceeded
  pub limit : left_of old ≡ 0
  pub faults : read.faults (inner_of old) ≤ read.faults (inner_of new)
  pub byte : IsTrue (read.tells (inner_of old)) → 0 < length (read.rest (inner_of old)).bytes
