-- The text of records: a format of this project, with its sentences where they are defined.
--
-- A text of records is three parts, one after another: the number of records; the end of each record, in their order; and the bytes of the
-- records, joined. A number is 8 bytes, the highest first. The end of a record is how many bytes the records up to and with it have.
use Rattle.std.specs.Prelude.{◌≡◌, ℕ, zero, suc, ◌+◌, ◌-◌, ◌*◌, List, [], ◌∷◌, ◌++◌, length, take, drop, nat_le, nat_lt, ◌&&◌, if◌then◌else◌, Option, Some, None, Result, Ok, Err}
use Rattle.std.specs.Int.{w64, to_be_bytes, from_be_bytes}
use Rattle.std.specs.List.{flat_map}
use Rattle.age_records.specs.declared.error.RecordError.{RecordError}
use Rattle.age_records.specs.declared.error.RecordError.TheVariants.{NoSuchRecord, Damaged}

-- ---- writing

-- a number: 8 bytes, the highest first
unfoldable pub number_text : ℕ → List ℕ
number_text n = to_be_bytes w64 n

-- the end of each record in turn, where the records before the first have so many bytes
abbrev pub ends : ℕ → List (List ℕ) → List ℕ
ends before [] = []
ends before (one ∷ more) = number_text (before + length one) ++ ends (before + length one) more

-- the bytes of all records, joined
abbrev pub joined_records : List (List ℕ) → List ℕ
joined_records records = flat_map (λ one. one) records

-- the text of records: their number, their ends and their bytes
abbrev pub records_text : List (List ℕ) → List ℕ
records_text records = number_text (length records) ++ ends 0 records ++ joined_records records

-- ---- reading

-- the number that 8 bytes say
unfoldable pub number_value : List ℕ → ℕ
number_value bytes = from_be_bytes w64 bytes

-- the number at a place of a text
abbrev pub number_at : List ℕ → ℕ → ℕ
number_at text place = number_value (take 8 (drop place text))

-- how many records the text has, as it says
abbrev pub count_of : List ℕ → ℕ
count_of text = number_at text 0

-- the end of the record before this one, as it says; before the first one it is 0
abbrev pub end_before : List ℕ → ℕ → ℕ
end_before text zero = 0
end_before text (suc i) = number_at text (8 * suc i)

-- the end of the last record; of none it is 0
abbrev pub last_end : List ℕ → ℕ
last_end text = end_before text (count_of text)

-- A text holds records where as many bytes follow its ends as the last end says. Any other is damaged.
pub record HoldsRecords (text : List ℕ) : Type 0 where
  pub whole : 8 + 8 * count_of text + last_end text ≡ length text

-- The bytes between two ends of so many records. A record whose ends fall, or pass the last one, is damaged; the others aren't by that.
abbrev pub between : List ℕ → ℕ → ℕ → ℕ → ℕ → Result (List ℕ) RecordError
between text count last start end =
    if nat_le start end && nat_le end last then Ok (take (end - start) (drop (8 + 8 * count + start) text)) else Err Damaged

-- what the text has as this record, counted from 0
abbrev pub record_at : List ℕ → ℕ → Result (List ℕ) RecordError
record_at text i =
    if nat_lt i (count_of text) then between text (count_of text) (last_end text) (end_before text i) (end_before text (suc i)) else Err NoSuchRecord

-- a record that is there, or that there is none
abbrev pub found : Option (List ℕ) → Result (List ℕ) RecordError
found (Some one) = Ok one
found None = Err NoSuchRecord
