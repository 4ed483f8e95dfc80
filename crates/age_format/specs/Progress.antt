-- A reader of a header that takes one byte after another.
use Rattle.std.specs.Prelude.{ℕ, ◌≤◌, Bool, List, length, take, drop}
use Rattle.age_base64.specs.Lines.{Lacks}
use Rattle.age_v1.specs.HeaderTexts.{magic}
use Rattle.age_v1.specs.HeaderVerdict.{IsUndecided}
use Rattle.age_format.specs.Reading.{IsAt}
use Rattle.age_format.specs.declared.state.State.{State}

-- what such a reader means: the text that it read, and whether the legacy form is allowed
pub record ReaderValue : Type 0 where
  pub legacy : Bool
  pub text : List ℕ

-- text was read and decides nothing; its last line, unfinished, begins at start
pub record IsInProgress (legacy : Bool) (state : State) (start : ℕ) (text : List ℕ) : Type 0 where
  pub behind : start ≤ length text
  pub undecided : IsUndecided legacy text
  pub at : IsAt legacy state (take start text)
  pub lacks : Lacks 10 (drop start text)

-- a byte goes on a line behind the beginning of each header
pub record CanGoOn (text : List ℕ) (byte : ℕ) : Type 0 where
  pub behind : length magic ≤ length text
  pub low : 32 ≤ byte
  pub high : byte ≤ 126
