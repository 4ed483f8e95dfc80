-- What a seek in armor says besides what those of every reader do.
use Rattle.std.specs.Prelude.{◌≡◌, ◌≢◌, ℕ, ◌+◌, ◌≤◌, ◌<◌, false, IsTrue, length, Result, Ok, Err, IfErr, OnOk}
use Rattle.age_error.specs.Refusals.{IsInterruption}
use Rattle.age_error.specs.declared.io.Error.{Error}
use Rattle.age_error.specs.declared.io.Error.TheVariants.{BeforeStart, OutOfMemory}
use Rattle.age_error.specs.declared.io.SeekFrom.{SeekFrom}
use Rattle.age_io.specs.Cursor.{IsOutside}
use Rattle.age_io.specs.Reading.{IsQuiet}
use Rattle.age_io.specs.declared.bufread.BufRead as buffered
use Rattle.age_io.specs.declared.traits.Read as readers
use Rattle.age_v1.specs.DeliveredArmor.{begins_armor}
use Rattle.age_armor.specs.declared.reader.ArmoredReader.{ArmoredReader}
use Rattle.age_armor.specs.Marks.{LearnsMore}
use Rattle.age_armor.specs.Reader.{armored_content, furthest_of, has_failed, inner_of, knows_end, lines_of, marks_of, notes_all, outcome_of, place_of, shown_of, source_of, text_outcome_of}
use Rattle.age_armor.specs.Seeking.{AsksPast, IsEarly, IsFromEnd, IsNear, IsTo}
use Rattle.age_armor.specs.Stages.{NamesEnding}
use Rattle.age_armor.specs.Steps.{StandsBelow}

module _ {R : Type 0} {buf : buffered.Ghosts R} {read : readers.Ghosts R} where
  -- Whether it has failed then: it hasn't after a success, it stays as it is where the target is refused, and it has after any other refusal.
  -- Interruptions were tried again.
  pub record FailsBySeek (old new : ArmoredReader R buf read) (result : Result ℕ Error) : Type 0 where
    pub patient : IfErr result (λ e. IsInterruption e → ⊥)
    pub good : OnOk result (has_failed new ≡ false)
    pub unmoved : IfErr result (λ e. IsOutside e → has_failed new ≡ has_failed old)
    pub fails : IfErr result (λ e. (IsOutside e → ⊥) → IsTrue (has_failed new))

  -- why it refuses
  pub record RefusesSeek (old new : ArmoredReader R buf read) (to : SeekFrom) (result : Result ℕ Error) : Type 0 where
    -- An error that is no refusal of a seek, and that neither the device nor memory made, is that of the text's end. It comes only where the
    -- target asks for more than the bytes before that end.
    pub named : IsTrue (read.tells (inner_of old)) → IsTrue (read.content (inner_of old)).ends_well →
        IfErr result (λ e. (IsOutside e → ⊥) → e ≢ OutOfMemory → IsQuiet (read.faults (inner_of old)) (read.faults (inner_of new)) →
        NamesEnding (text_outcome_of old).ending e × AsksPast to (place_of old) (length (armored_content old).bytes))
    -- a target counted from the end is come to only where the text carries bytes: of a bad one the length isn't known
    pub well : IsTrue (read.tells (inner_of old)) → IsTrue (read.steady (inner_of old)) → IsFromEnd to →
        OnOk result (IsTrue (armored_content old).ends_well)
    -- of a text that ends in a fault the only refusal of a target is that of one that is counted from the place
    pub early : IsTrue (read.tells (inner_of old)) → IsTrue (read.steady (inner_of old)) → (armored_content old).ends_well ≡ false →
        IfErr result (λ e. IsOutside e → (e ≡ BeforeStart) × IsEarly to (place_of old))
    -- where such a target lies below 0 it is refused at once: nothing is read, and nothing changes
    pub at_once : IsTrue (read.tells (inner_of old)) → IsEarly to (place_of old) → (result ≡ Err BeforeStart) × (new ≡ old)

  -- What stays of the text: which one it is, and what it delivers in all. A reader that hasn't failed comes to its end, unless nothing was
  -- looked for.
  pub record SeeksInText (old new : ArmoredReader R buf read) (to : SeekFrom) : Type 0 where
    pub same_text : IsTrue (read.tells (inner_of old)) → source_of new ≡ source_of old
    pub whole : IsTrue (read.tells (inner_of old)) → text_outcome_of new ≡ text_outcome_of old
    pub ending : IsTrue (read.tells (inner_of old)) → IsTrue (read.steady (inner_of old)) →
        (IsEarly to (place_of old) → ⊥) → has_failed new ≡ false →
        (outcome_of new).ending ≡ (text_outcome_of old).ending

  -- how many lines it takes
  pub record CountsSeek (old new : ArmoredReader R buf read) (to : SeekFrom) (result : Result ℕ Error) : Type 0 where
    pub counts : lines_of old ≤ lines_of new
    -- where each mark had memory, at most 1,024 to where the text was read before
    pub marks : IsTrue (read.tells (inner_of old)) → IsTrue (read.steady (inner_of old)) → IsTrue (notes_all old) →
        IsNear to (place_of old) (furthest_of old) (knows_end old) → OnOk result (lines_of new ≤ lines_of old + 1024)
    -- once the end was read, none to outside of what the text carries
    pub outside : IsTrue (read.tells (inner_of old)) → IsTrue (read.steady (inner_of old)) → IsTrue (knows_end old) →
        IfErr result (λ e. IsOutside e → lines_of new ≤ lines_of old)
    -- none of a binary text
    pub bare : IsTrue (read.tells (inner_of old)) → IsTrue (read.steady (inner_of old)) → begins_armor (source_of old).bytes ≡ false →
        lines_of new ≡ lines_of old

  -- What it learns of the text: what is known of it only grows, and the end is known once the target was counted from it. After a success all
  -- that is held is before the furthest place.
  pub record LearnsBySeek (old new : ArmoredReader R buf read) (to : SeekFrom) (result : Result ℕ Error) : Type 0 where
    pub learns : LearnsMore (marks_of old) (marks_of new)
    pub knows : IsFromEnd to → OnOk result (IsTrue (knows_end new))
    pub reaches : IsTrue (read.tells (inner_of old)) → OnOk result (place_of new + length (shown_of new) ≤ furthest_of new)

  -- where it leads
  pub record LandsThere (old new : ArmoredReader R buf read) (to : SeekFrom) (result : Result ℕ Error) : Type 0 where
    -- where bytes are held, one to the place itself changes nothing
    pub still : IsTrue (read.tells (inner_of old)) → 0 < length (shown_of old) → IsTo to (place_of old) →
        (result ≡ Ok (place_of old)) × (new ≡ old)
    -- in a binary text the inner reader stands at the place itself then, counted from where the text begins, and nothing is held
    pub below : StandsBelow old new result

  -- all that a seek says besides
  pub record SeeksArmor (old new : ArmoredReader R buf read) (to : SeekFrom) (result : Result ℕ Error) : Type 0 where
    pub fails : FailsBySeek old new result
    pub refuses : RefusesSeek old new to result
    pub text : SeeksInText old new to
    pub counts : CountsSeek old new to result
    pub learns : LearnsBySeek old new to result
    pub lands : LandsThere old new to result
