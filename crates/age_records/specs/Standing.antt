-- Records in any plaintext, of which not all bytes need be known: what stands in it at its places says them.
use Rattle.std.specs.Prelude.{◌≡◌, ℕ, ◌+◌, ◌*◌, ◌<◌, ◌⊎◌, List, length}
use Rattle.age_records.specs.Text.{number_text, count_of, last_end}

-- a text has so many records, as it says, and so many bytes follow the ends, as the last end says
pub record HasRecords (text : List ℕ) (count total : ℕ) : Type 0 where
  pub counted : count ≡ count_of text
  pub ended : total ≡ last_end text
  pub whole : 8 + 8 * count + total ≡ length text

-- The ends that stand there for record i: that of the record before it, which is 0 before the first, and its own.
pub record HasEnds (Stands : ℕ → List ℕ → Type 0) (i start end : ℕ) : Type 0 where
  pub first : i ≡ 0 → start ≡ 0
  pub before : 0 < i → Stands (8 * i) (number_text start)
  pub own : Stands (8 * i + 8) (number_text end)

-- These bytes stand there as record i of so many: it has as many as there are between its two ends, and they stand at the first of these
-- behind all ends.
pub record IsRecordAt (Stands : ℕ → List ℕ → Type 0) (count i : ℕ) (bytes : List ℕ) : Type 0 where
  pub start : ℕ
  pub ends : HasEnds Stands i start (start + length bytes)
  pub stands : Stands (8 + 8 * count + start) bytes

-- The ends of record i fall, or pass the last one.
pub record HasBadEnds (Stands : ℕ → List ℕ → Type 0) (last i : ℕ) : Type 0 where
  pub start : ℕ
  pub end : ℕ
  pub ends : HasEnds Stands i start end
  pub bad : (end < start) ⊎ (last < end)

-- The last end that stands there for so many records isn't the number of bytes that follow the ends; of none it is 0.
pub record HasOtherEnd (Stands : ℕ → List ℕ → Type 0) (len n : ℕ) : Type 0 where
  pub last : ℕ
  pub none : n ≡ 0 → last ≡ 0
  pub stands : 0 < n → Stands (8 * n) (number_text last)
  pub other : 8 + 8 * n + last ≡ len → ⊥

-- What stands in a plaintext of so many bytes is no text of records: it has fewer than the count or than the ends that the count asks for, or not as
-- many as the last end says.
abbrev pub HoldsNone : (ℕ → List ℕ → Type 0) → ℕ → Type 0
HoldsNone Stands len = (len < 8) ⊎ ((n : ℕ) × Stands 0 (number_text n) × ((len < 8 + 8 * n) ⊎ HasOtherEnd Stands len n))
