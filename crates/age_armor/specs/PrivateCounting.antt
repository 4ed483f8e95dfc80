-- A reader of which bytes are taken and counted.
use Rattle.std.specs.Prelude.{◌≡◌, ℕ, ◌+◌, ◌-◌, ◌*◌, ◌^◌, ◌≤◌, ◌<◌, Bool, true, false, ◌||◌, IsTrue, List, ◌∷◌, length, min, Result, OnOk, OnErr, ◌≢◌, take, IfOk, IfErr}
use Rattle.age_io.specs.Stretch.{Stretch, IsCleanEnd}
use Rattle.age_io.specs.Reading.{most_faults, IsQuiet}
use Rattle.age_io.specs.Keeping.{KeepsReader}
use Rattle.age_io.specs.declared.traits.Read.{Ghosts}
use Rattle.age_error.specs.declared.io.Error.{Error}
use Rattle.age_io.specs.declared.bufread.BufRead as buffered
use Rattle.age_armor.specs.declared.counted.Counted.{Counted}
use Rattle.age_armor.specs.declared.stages.Stage.{Stage}
use Rattle.age_armor.specs.declared.stages.Stage.TheVariants.{Lines}
use Rattle.age_armor.specs.Stages.{is_start, has_lines, ahead}
use Rattle.age_armor.specs.PrivateStages.{is_open, Advances, StopsWith, is_ended}
use Rattle.age_v1.specs.ArmorLineVerdict.{last_is}
use Rattle.age_armor.specs.PrivateRefusing.{OrTextRefusal}
use Rattle.age_armor.specs.Refusing.{OrEnd}
use Rattle.age_v1.specs.DeliveredArmor.{raw_lines, section, ends_in, InnerFault, Clean}
use Rattle.age_error.specs.declared.io.Error.TheVariants.{OutOfMemory}
use Rattle.age_armor.specs.declared.stages.Piece.{Piece}

-- the reader is the same but for where it stands, it refuses as reading a text may, and what stands before the bytes that were taken
-- is as much as before
pub record Kept {R A : Type 0} (read : Ghosts R) (old : R) (old_taken : ℕ) (new : R) (new_taken : ℕ) (result : Result A Error) : Type 0 where
  pub keeps : KeepsReader read (OrTextRefusal read) old new result
  pub unspent : OnOk result (read.faults new < most_faults)
  pub origin : IsTrue (read.tells old) → read.place new - new_taken ≡ read.place old - old_taken
  pub more : IsTrue (read.tells old) → old_taken ≤ new_taken

-- nothing was taken, neither of bytes nor of lines
pub record TakesNone {R A : Type 0} {buf : buffered.Ghosts R} {read : Ghosts R} (old new : Counted R buf read)
    (result : Result A Error) : Type 0 where
  pub taken : new.taken ≡ old.taken
  pub lines : new.lines ≡ old.lines
  pub same : IsTrue (read.tells old.inner) → OnOk result (read.rest new.inner ≡ read.rest old.inner)

-- a line was taken: the first of what was left, empty only at a clean end
pub record TakesLine (line : List ℕ) (old new : Stretch) : Type 0 where
  pub empty : length line ≡ 0 → IsCleanEnd old
  pub first : 0 < length line → raw_lines old.bytes ≡ line ∷ raw_lines new.bytes
  pub whole : 0 < length line → (old.ends_well || last_is 10 line) ≡ true
  pub end : new.ends_well ≡ old.ends_well

-- no whole line is left before a fault
abbrev pub IsCutShort : Stretch → Type 0
IsCutShort rest = (after_short : Bool) → section after_short (raw_lines rest.bytes) rest.ends_well ≡ ends_in InnerFault

-- fewer bytes than this are left, and then a clean end or a fault
pub record IsFew (count : ℕ) (ends_well : Bool) (rest : Stretch) : Type 0 where
  pub few : length rest.bytes < count
  pub end : rest.ends_well ≡ ends_well

-- ---- how many lines were taken

-- one more, as far as the number goes
abbrev pub one_line_more : ℕ → ℕ
one_line_more lines = min (lines + 1) (2 ^ 64 - 1)

-- a line of so many bytes is one more, where it has any, and a refusal counts none
pub record CountsOne {A : Type 0} (size old new : ℕ) (result : Result A Error) : Type 0 where
  pub lines : OnOk result (0 < size → new ≡ one_line_more old)
  pub no_line : OnOk result (size ≡ 0 → new ≡ old)
  pub none_taken : OnErr result (new ≡ old)
  pub counts : old ≤ new

-- How a read that found bytes changes a reader of armor: its stage, its place, how many bytes it holds, and how many lines were taken.
pub record TakesLines (old new : Stage) (old_place old_held old_lines new_place new_held new_lines : ℕ) : Type 0 where
  -- what is held is given, and no line is taken
  pub held : 0 < old_held → (new ≡ old) × (new_lines ≡ old_lines) × (new_place + new_held ≡ old_place + old_held)
  -- else one is taken at most, and a full one stands for 48 bytes
  pub more : (old_lines ≤ new_lines) × (new_lines ≤ old_lines + 1)
  pub full : old_held ≡ 0 → new ≡ Lines false → new_place + new_held ≡ old_place + 48
  -- of a binary text none
  pub bare : has_lines new ≡ false → new_lines ≡ old_lines
  pub begun : is_start new ≡ false
  pub on : old_place ≤ new_place

-- How many lines were taken on the way from a place, so many having been taken before, towards a target: each but the last stands for 48 bytes.
pub record IsCounted (stage : Stage) (start counted target place held lines : ℕ) : Type 0 where
  pub at_most : is_open stage ≡ true → 48 * lines + start ≤ 48 * counted + place + held
  pub bound : 48 * lines + start < 48 * counted + target + 48

-- ---- the next bytes of a text

module _ {R : Type 0} {buf : buffered.Ghosts R} {read : Ghosts R} where
  -- what was found comes first of what stood before the reader at this stage, and where it refuses nothing comes before that error, which is the
  -- text's own or one of its reader
  pub record GivesPiece (stage : Stage) (old new : Counted R buf read) (found : List ℕ) (result : Result Piece Error) : Type 0 where
    pub taken : IsTrue (read.tells old.inner) → IfOk result (λ piece. old.taken + piece.count ≤ new.taken)
    pub bytes : IsTrue (read.tells old.inner) → IfOk result (λ piece.
        Advances (ahead stage (read.rest old.inner)) (take piece.count found) (ahead piece.next (read.rest new.inner)))
    pub cause : IsTrue (read.tells old.inner) → IfErr result (λ e. e ≢ OutOfMemory → IsQuiet (read.faults old.inner) (read.faults new.inner) →
        StopsWith (ahead stage (read.rest old.inner)) e)
    pub why : IsTrue (read.tells old.inner) → IfErr result (OrEnd read old.inner (ahead stage (read.rest old.inner)))

  -- it is no longer than a line, 48 bytes where lines go on behind it, and empty at a clean end alone
  pub record IsPiece (stage : Stage) (old : Counted R buf read) (result : Result Piece Error) : Type 0 where
    pub fits : IfOk result (λ piece. piece.count ≤ 48)
    pub full : IfOk result (λ piece. piece.next ≡ Lines false → piece.count ≡ 48)
    pub ended : IfOk result (λ piece. is_ended piece.next ≡ true → piece.count ≡ 0)
    pub begun : IfOk result (λ piece. is_start piece.next ≡ false)
    pub end : IsTrue (read.tells old.inner) → IfOk result (λ piece. piece.count ≡ 0 → ahead stage (read.rest old.inner) ≡ ends_in Clean)
