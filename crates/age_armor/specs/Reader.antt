-- What a caller sees of an `ArmoredReader`, what its reads and looks say besides what those of every reader do, and what it means as a reader.
use Rattle.std.specs.Prelude.{◌≡◌, ℕ, ◌+◌, ◌-◌, ◌^◌, ◌≤◌, ◌<◌, ◌⊎◌, Bool, true, false, IsTrue, List, [], length, drop, min, Result, Ok, Err, IfOk, IfErr, OnOk, OnErr}
use Rattle.age_error.specs.declared.io.Error.{Error}
use Rattle.age_error.specs.declared.io.Error.TheVariants.{Failed}
use Rattle.age_io.specs.declared.traits.Read as readers
use Rattle.age_io.specs.declared.bufread.BufRead as buffered
use Rattle.age_io.specs.Stretch.{Stretch, from_place}
use Rattle.age_io.specs.Reading.{TriedAgain}
use Rattle.age_io.specs.Failing.{FailsForGood}
use Rattle.age_armor.specs.declared.reader.ArmoredReader.{ArmoredReader}
use Rattle.age_v1.specs.DeliveredArmor.{Outcome, begins_armor}
use Rattle.age_armor.specs.Stages.{has_lines}
use Rattle.age_armor.specs.declared.marks.Marks.{Marks}
use Rattle.age_armor.specs.Marks.{is_known, LearnsMore}
use Rattle.age_armor.specs.Ending.{KeepsEnding}
use Rattle.age_armor.specs.Refusing.{IsOwnRefusal, OrEnd}
use Rattle.age_armor.specs.Seeking.{text_outcome}
use Rattle.age_armor.specs.Windows.{held_in}
use Rattle.age_armor.specs.Ahead.{outcome_ahead, rest_ahead, shown_ahead}
use Rattle.age_v1.proofs.DeliveredArmors.{content_of}

module _ {R : Type 0} {buf : buffered.Ghosts R} {read : readers.Ghosts R} where
  -- the reader that gives the text
  abbrev pub inner_of : ArmoredReader R buf read → R
  inner_of r = r.source.inner

  -- whether it answers `Failed` to every read
  abbrev pub has_failed : ArmoredReader R buf read → Bool
  has_failed r = r.failed

  -- whether it has found the begin marker
  abbrev pub has_armor : ArmoredReader R buf read → Bool
  has_armor r = has_lines r.stage

  -- what the text still delivers, by the definition of armor, and how it ends
  abbrev pub outcome_of : ArmoredReader R buf read → Outcome
  outcome_of r = outcome_ahead (held_in r.window) r.stage (read.rest r.source.inner)

  -- how many bytes of the text were taken from the reader that gives it
  abbrev pub taken_of : ArmoredReader R buf read → ℕ
  taken_of r = r.source.taken - r.preceding

  -- the place in the content of that reader at which the text begins
  abbrev pub origin_of : ArmoredReader R buf read → ℕ
  origin_of r = read.place r.source.inner - r.source.taken + r.preceding

  -- the text: what stands in the content of that reader from where it stood when this one was made
  abbrev pub source_of : ArmoredReader R buf read → Stretch
  source_of r = from_place (origin_of r) (read.content r.source.inner)

  -- what the whole text delivers, and how it ends
  abbrev pub text_outcome_of : ArmoredReader R buf read → Outcome
  text_outcome_of r = text_outcome (read.content r.source.inner) (origin_of r)

  -- how many lines were taken of it
  abbrev pub lines_of : ArmoredReader R buf read → ℕ
  lines_of r = r.source.lines

  -- what it knows of the text
  abbrev pub marks_of : ArmoredReader R buf read → Marks
  marks_of r = r.marks

  -- the furthest place in what the text carries up to which it was read
  abbrev pub furthest_of : ArmoredReader R buf read → ℕ
  furthest_of r = r.marks.furthest

  -- whether memory for a mark was never refused
  abbrev pub notes_all : ArmoredReader R buf read → Bool
  notes_all r = r.marks.noting

  -- whether the text was read to its end
  abbrev pub knows_end : ArmoredReader R buf read → Bool
  knows_end r = is_known r.marks.length

  -- ---- its members as a reader

  -- what the text delivers from where the inner reader stood when this reader was made
  abbrev pub armored_content : ArmoredReader R buf read → Stretch
  armored_content r = content_of (read.content r.source.inner) (origin_of r)

  -- how many bytes of that stand before the place
  abbrev pub place_of : ArmoredReader R buf read → ℕ
  place_of r = r.place

  -- what its reads can still deliver
  abbrev pub armored_rest : ArmoredReader R buf read → Stretch
  armored_rest r = rest_ahead r.failed (held_in r.window) r.stage (read.rest r.source.inner)

  -- why its calls refuse: with `Failed` once it has failed, with what reading the text refuses with of itself, which is how the text ends, or as
  -- the inner reader does, whose interruptions are tried again
  abbrev pub refuses_of : ArmoredReader R buf read → Error → Type 0
  refuses_of r e = ((r.failed ≡ true) × (e ≡ Failed))
      ⊎ IsOwnRefusal (read.tells r.source.inner) (read.steady r.source.inner) (text_outcome_of r).ending e
      ⊎ TriedAgain read.refuses r.source.inner e

  -- what it shows: the rest of the line that it holds
  abbrev pub shown_of : ArmoredReader R buf read → List ℕ
  shown_of r = shown_ahead r.failed (held_in r.window)

  -- What a read or a look of armor counts where it succeeds: where bytes were held no line, and else one, where it finds bytes.
  pub record CountsLine (old new : ArmoredReader R buf read) : Type 0 where
    pub held : 0 < length (shown_of old) → lines_of new ≡ lines_of old
    pub next : shown_of old ≡ [] → place_of old < place_of new + length (shown_of new) → lines_of new ≡ min (lines_of old + 1) (2 ^ 64 - 1)

  -- What a read or a look comes to know: all that it holds is before the furthest place, it takes one line at most, and of a binary text none.
  pub record Learns {A : Type 0} (old new : ArmoredReader R buf read) (result : Result A Error) : Type 0 where
    pub more : LearnsMore (marks_of old) (marks_of new)
    pub reaches : IsTrue (read.tells (inner_of old)) → OnOk result (place_of new + length (shown_of new) ≤ furthest_of new)
    pub lines : (lines_of old ≤ lines_of new) × (lines_of new ≤ lines_of old + 1)
    pub bare : IsTrue (read.tells (inner_of old)) → IsTrue (read.steady (inner_of old)) → begins_armor (source_of old).bytes ≡ false →
        lines_of new ≡ lines_of old
    pub exact : IsTrue (read.tells (inner_of old)) → IsTrue (has_armor new) → OnOk result (CountsLine old new)

  -- What stays of the text over a read or a look: which one it is, what it delivers in all, and how it ends. A refusal that neither the device
  -- nor memory made is that of its end. Whether or not the device failed, one that the inner reader wouldn't make is said of the text only where
  -- nothing is left of it but the end with that name.
  pub record SameText {A : Type 0} (old new : ArmoredReader R buf read) (result : Result A Error) : Type 0 where
    pub ending : KeepsEnding (read.tells (inner_of old)) (has_failed old) (read.faults (inner_of old)) (read.faults (inner_of new))
        (outcome_of old).ending (outcome_of new).ending result
    pub says : IsTrue (read.tells (inner_of old)) → has_failed old ≡ false → IfErr result (OrEnd read (inner_of old) (outcome_of old))
    pub whole : IsTrue (read.tells (inner_of old)) → text_outcome_of new ≡ text_outcome_of old
    pub same_text : IsTrue (read.tells (inner_of old)) → source_of new ≡ source_of old

  -- What a read gives: what is held of a line, or of the next one. One that isn't empty has found out whether the text has armor. In armor nothing
  -- else of the buffer changes, and where the text begins as armor a refusal leaves it, also that of the first line.
  pub record GivesLine (old new : ArmoredReader R buf read) (before after : List ℕ) (result : Result ℕ Error) : Type 0 where
    pub held : 0 < length (shown_of old) → IfOk result (λ n. n ≤ length (shown_of old))
    pub line : IsTrue (has_armor new) → IfOk result (λ n. n + length (shown_of new) ≤ 48)
    pub beyond : IsTrue (has_armor new) → IfOk result (λ n. drop n after ≡ drop n before)
    pub untouched : IsTrue (has_armor new) → OnErr result (after ≡ before)
    pub form : 0 < length before → IsTrue (read.tells (inner_of old)) → IsTrue (read.steady (inner_of old)) →
        OnOk result (has_armor new ≡ begins_armor (source_of old).bytes)
    pub spared : IsTrue (read.tells (inner_of old)) → IsTrue (read.steady (inner_of old)) →
        IsTrue (begins_armor (source_of old).bytes) → OnErr result (after ≡ before)

  -- What a read says besides: what it gives, what stays of the text, what it learns of it, and when it fails or does nothing.
  pub record ReadsArmor (old new : ArmoredReader R buf read) (before after : List ℕ) (result : Result ℕ Error) : Type 0 where
    pub gives : GivesLine old new before after result
    pub text : SameText old new result
    pub learns : Learns old new result
    -- the end is known once it answers 0
    pub knows : 0 < length before → IfOk result (λ n. n ≡ 0 → IsTrue (knows_end new))
    -- after a refusal it answers `Failed`, and interruptions were tried again
    pub good : FailsForGood (has_failed old) (has_failed new) result
    -- neither a failed reader nor an empty buffer changes anything
    pub failed : IsTrue (has_failed old) → (result ≡ Err Failed) × (new ≡ old)
    pub empty : has_failed old ≡ false → length before ≡ 0 → (result ≡ Ok 0) × (new ≡ old)

  -- What a look says besides: the same of the text, of which it finds out the form, and of what it learns.
  pub record ShowsArmor {A : Type 0} (old new : ArmoredReader R buf read) (result : Result A Error) : Type 0 where
    pub text : SameText old new result
    pub form : IsTrue (read.tells (inner_of old)) → IsTrue (read.steady (inner_of old)) →
        OnOk result (has_armor new ≡ begins_armor (source_of old).bytes)
    pub learns : Learns old new result
    -- the end is known once nothing is shown
    pub knows : OnOk result (shown_of new ≡ [] → IsTrue (knows_end new))
    pub good : FailsForGood (has_failed old) (has_failed new) result

  -- What stays of a reader that takes what was shown: all but its place and what is left to be given.
  pub record SameButPlace (old new : ArmoredReader R buf read) : Type 0 where
    pub failed : has_failed new ≡ has_failed old
    pub ending : (outcome_of new).ending ≡ (outcome_of old).ending
    pub whole : text_outcome_of new ≡ text_outcome_of old
    pub same_text : source_of new ≡ source_of old
    pub form : has_armor new ≡ has_armor old
    pub marks : marks_of new ≡ marks_of old
    pub lines : lines_of new ≡ lines_of old

  -- all its members as a reader
  abbrev pub armored_reader : readers.Ghosts (ArmoredReader R buf read)
  armored_reader = record {
    tells = λ r. read.tells r.source.inner;
    steady = λ r. read.steady r.source.inner;
    content = armored_content;
    place = place_of;
    rest = armored_rest;
    faults = λ r. read.faults r.source.inner;
    refuses = refuses_of;
    read_besides = ReadsArmor;
  }
