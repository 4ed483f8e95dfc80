-- What the private steps of a reader of armor say of it, before and after.
use Rattle.std.specs.Prelude.{Bool, Err, IfErr, IfOk, IsTrue, Ok, OnErr, OnOk, Result, [], false, length, true, ℕ, ℤ, ⊤, ◌*◌, ◌+◌, ◌<◌, ◌≡◌, ◌≢◌, ◌≤◌}
use Rattle.age_error.specs.declared.io.Error.{Error}
use Rattle.age_io.specs.Stretch.{IsCleanEnd, from_place}
use Rattle.age_armor.specs.declared.reader.ArmoredReader.{ArmoredReader}
use Rattle.age_armor.specs.declared.stages.Stage.TheVariants.{Binary}
use Rattle.age_armor.specs.PrivateCounting.{TakesLines}
use Rattle.age_armor.specs.Ending.{KeepsEnding}
use Rattle.age_armor.specs.Marks.{LearnsMore}
use Rattle.age_armor.specs.Stages.{NamesEnding, is_start}
use Rattle.age_armor.specs.Windows.{held_in}
use Rattle.age_armor.specs.Reader.{CountsLine, armored_content, armored_reader, armored_rest, furthest_of, has_armor, has_failed, inner_of, knows_end, lines_of, marks_of, notes_all, outcome_of, place_of, refuses_of, shown_of, source_of, text_outcome_of}
use Rattle.age_error.specs.declared.io.Error.TheVariants.{OutOfMemory}
use Rattle.age_error.specs.declared.io.SeekFrom.{SeekFrom}
use Rattle.age_error.specs.declared.io.SeekFrom.TheVariants.{End}
use Rattle.age_io.specs.Reading.{AddsNoReason, IsQuiet, TriedAgain, most_faults}
use Rattle.age_io.specs.Keeping.{OrSeek, SameReader}
use Rattle.age_io.specs.Cursor.{IsOutside, MayLead, sought}
use Rattle.age_armor.specs.Refusing.{OrEnd}
use Rattle.age_armor.specs.Seeking.{AsksPast, IsNear, OrAstray}
use Rattle.age_armor.specs.PrivateSeeking.{Goes}
use Rattle.age_armor.specs.Steps.{WherePlain, WhereSteady}
use Rattle.age_io.specs.declared.bufread.BufRead as buffered
use Rattle.age_io.specs.declared.traits.Read as readers

module _ {R : Type 0} {buf : buffered.Ghosts R} {read : readers.Ghosts R} where
  -- of a reader that tells its bytes, and of one that is steady besides
  abbrev pub WhereTold : ArmoredReader R buf read → Type 0 → Type 0
  WhereTold r fact = IsTrue (read.tells (inner_of r)) → fact

  -- the text is the same, what is known of it only grows, and so does the count of lines, of which a binary text has none
  pub record KeepsText (old new : ArmoredReader R buf read) : Type 0 where
    pub same_text : WhereTold old (source_of new ≡ source_of old)
    pub learns : LearnsMore (marks_of old) (marks_of new)
    pub counts : lines_of old ≤ lines_of new
    pub bare : WherePlain old (lines_of new ≡ lines_of old)

  -- a success keeps how the text ends, and a refusal that neither the device nor memory made is that end's
  abbrev pub EndsAsBefore : {A : Type 0} → ArmoredReader R buf read → ArmoredReader R buf read → Result A Error → Type 0
  EndsAsBefore old new result = KeepsEnding (read.tells (inner_of old)) (has_failed old) (read.faults (inner_of old)) (read.faults (inner_of new))
      (outcome_of old).ending (outcome_of new).ending result

  -- a refusal is want of memory, one of the reader that gives the text, or the text's own end
  abbrev pub RefusesAsTold : {A : Type 0} → ArmoredReader R buf read → Result A Error → Type 0
  RefusesAsTold old result = WhereTold old (IfErr result (OrEnd read (inner_of old) (outcome_of old)))

  -- after a success the lines that were taken are counted
  abbrev pub CountsTaken : {A : Type 0} → ArmoredReader R buf read → ArmoredReader R buf read → Result A Error → Type 0
  CountsTaken old new result = WhereTold old (OnOk result (TakesLines old.stage new.stage
      (place_of old) (length (held_in old.window)) (lines_of old) (place_of new) (length (held_in new.window)) (lines_of new)))

  -- It holds the next bytes, and what is left stays. Nothing is held at a clean end alone, of which it knows then. What is held already stays,
  -- and nothing is read for it.
  pub record HoldsNext (old new : ArmoredReader R buf read) (result : Result ⊤ Error) : Type 0 where
    pub place : place_of new ≡ place_of old
    pub rest : WhereTold old (OnOk result (armored_rest new ≡ armored_rest old))
    pub begun : OnOk result (is_start new.stage ≡ false)
    pub end : WhereTold old (OnOk result (held_in new.window ≡ [] → IsCleanEnd (armored_rest old)))
    pub knows : OnOk result (held_in new.window ≡ [] → IsTrue (knows_end new))
    pub same : 0 < length (shown_of old) → (result ≡ Ok tt) × (shown_of new ≡ shown_of old)
    pub line : IsTrue (has_armor new) → OnOk result (CountsLine old new)

  -- what is held is given, and nothing is read
  pub record ReadsNothing (old new : ArmoredReader R buf read) : Type 0 where
    pub source : new.source ≡ old.source
    pub preceding : new.preceding ≡ old.preceding
    pub stage : new.stage ≡ old.stage
    pub marks : marks_of new ≡ marks_of old
    pub fresh : new.failed ≡ false
    pub ending : (outcome_of new).ending ≡ (outcome_of old).ending

  -- the text is binary, of which nothing is held and no line is taken
  pub record StaysBinary (old new : ArmoredReader R buf read) : Type 0 where
    pub stage : new.stage ≡ Binary
    pub shown : shown_of old ≡ []
    pub holds : held_in new.window ≡ held_in old.window
    pub lines : lines_of new ≡ lines_of old

  -- a reader that hasn't failed comes to the text's own end
  abbrev pub EndsAsText : ArmoredReader R buf read → ArmoredReader R buf read → Type 0
  EndsAsText old new = WhereSteady old (has_failed new ≡ false → (outcome_of new).ending ≡ (text_outcome_of old).ending)

  -- nothing was read of a text
  abbrev pub IsNew : ArmoredReader R buf read → Type 0
  IsNew r = (is_start r.stage ≡ true) × (furthest_of r ≡ 0)

  -- after a success it is good, and has before it what the text carries from its place on, up to the text's own end
  pub record StandsInText {A : Type 0} (old new : ArmoredReader R buf read) (result : Result A Error) : Type 0 where
    pub good : OnOk result (has_failed new ≡ false)
    pub rest : WhereSteady old (OnOk result (armored_rest new ≡ from_place (place_of new) (armored_content old)))
    pub ending : WhereSteady old (OnOk result ((outcome_of new).ending ≡ (text_outcome_of old).ending))

  -- after a refusal, which is never one of the target, it has failed at its place
  pub record FailsThere {A : Type 0} (old new : ArmoredReader R buf read) (result : Result A Error) : Type 0 where
    pub fails : OnErr result (has_failed new ≡ true)
    pub stays : OnErr result (place_of new ≡ place_of old)
    pub other : IfErr result (λ e. IsOutside e → ⊥)

  -- it came to the place, or else to a clean end before it, which it knows from then on
  pub record ComesTo (old new : ArmoredReader R buf read) (target : ℕ) (result : Result Bool Error) : Type 0 where
    pub there : WhereTold old (IfOk result (λ there. IsTrue there → place_of new ≡ target))
    pub end : WhereTold old (IfOk result (λ there. there ≡ false → IsCleanEnd (armored_rest new) × (place_of new < target)))
    pub knows : IfOk result (λ there. there ≡ false → IsTrue (knows_end new))

  -- where what it has before it stands in what the text carries it still does, and a fault of the text stands before the place
  pub record WalksAlong {A : Type 0} (old new : ArmoredReader R buf read) (target : ℕ) (result : Result A Error) : Type 0 where
    pub rest : WhereTold old (armored_rest old ≡ from_place (place_of old) (armored_content old) →
        OnOk result (armored_rest new ≡ from_place (place_of new) (armored_content old)))
    pub short : WhereSteady old (armored_rest old ≡ from_place (place_of old) (armored_content old) → IfErr result (λ e. e ≢ OutOfMemory →
        IsQuiet (read.faults (inner_of old)) (read.faults (inner_of new))
        → ((armored_content old).ends_well ≡ false) × (length (armored_content old).bytes < target)))

  -- each line but the last that it takes stands for 48 bytes on the way
  abbrev pub CountsLines : ArmoredReader R buf read → ArmoredReader R buf read → ℕ → Result Bool Error → Type 0
  CountsLines old new target result = WhereSteady old (armored_rest old ≡ from_place (place_of old) (armored_content old) →
      target ≤ length (armored_content old).bytes
      → IfOk result (λ there. IsTrue there → 48 * lines_of new + place_of old < 48 * lines_of old + target + 48))

  -- it stands in what the text carries, which is what it was, and hasn't failed
  pub record Came (old new : ArmoredReader R buf read) : Type 0 where
    pub same : SameReader armored_reader old new
    pub narrows : AddsNoReason (TriedAgain refuses_of) old new
    pub unspent : read.faults (inner_of new) < most_faults
    pub text : KeepsText old new
    pub good : has_failed new ≡ false
    pub stands : WhereSteady old (armored_rest new ≡ from_place (place_of new) (armored_content old))
    pub within : WhereSteady old (place_of new ≤ length (armored_content old).bytes)
    pub ending : WhereSteady old ((outcome_of new).ending ≡ (text_outcome_of old).ending)

  -- a success answers the place where it stands, which is the one that the seek asks for
  pub record Reaches (old new : ArmoredReader R buf read) (to : SeekFrom) (result : Result ℕ Error) : Type 0 where
    pub stands : StandsInText old new result
    pub there : IfOk result (MayLead to (place_of old))
    pub place : WhereTold old (IfOk result (λ n. place_of new ≡ n))
    pub exact : WhereSteady old (IfOk result (λ n. sought to (place_of old) (length (armored_content old).bytes) ≡ Ok n))

  -- A refusal of the target adds no reason, and is the right one. Any other that neither the device nor memory made is that of the text's
  -- end, and the target asks for more than the bytes before it.
  pub record Misses (old new : ArmoredReader R buf read) (to : SeekFrom) (result : Result ℕ Error) : Type 0 where
    pub missed : IfErr result (λ e. IsOutside e → AddsNoReason refuses_of old new)
    pub refused : WhereSteady old (IfErr result (λ e. IsOutside e → IsTrue (armored_content old).ends_well
        × (sought to (place_of old) (length (armored_content old).bytes) ≡ Err e)))
    pub named : IsTrue (read.tells (inner_of old)) → IsTrue (read.content (inner_of old)).ends_well →
        IfErr result (λ e. (IsOutside e → ⊥) → e ≢ OutOfMemory → IsQuiet (read.faults (inner_of old)) (read.faults (inner_of new)) →
        NamesEnding (text_outcome_of old).ending e × AsksPast to (place_of old) (length (armored_content old).bytes))

  -- to a place, or refused
  pub record GoesTo (seek_refuses : Error → Type 0) (old new : ArmoredReader R buf read) (to : SeekFrom) (result : Result ℕ Error) : Type 0 where
    pub goes : Goes armored_reader (OrSeek (OrAstray seek_refuses) refuses_of) old new result
    pub text : KeepsText old new
    pub reaches : Reaches old new to result
    pub misses : Misses old new to result

  -- to the end, which is a clean one and known then, or refused as each seek that is counted from it
  pub record ReachesEnd (seek_refuses : Error → Type 0) (old new : ArmoredReader R buf read) (result : Result ⊤ Error) : Type 0 where
    pub goes : Goes armored_reader (OrSeek (OrAstray seek_refuses) refuses_of) old new result
    pub text : KeepsText old new
    pub came : OnOk result (Came old new)
    pub end : WhereTold old (OnOk result (IsCleanEnd (armored_rest new)))
    pub knows : OnOk result (IsTrue (knows_end new))
    pub misses : IfErr result (λ e. (distance : ℤ) → Misses old new (End distance) (Err e))

  -- after a success the end is known, and it is a clean one
  pub record FindsEnd {A : Type 0} (old new : ArmoredReader R buf read) (result : Result A Error) : Type 0 where
    pub well : WhereSteady old (OnOk result (IsTrue (armored_content old).ends_well))
    pub knows : OnOk result (IsTrue (knows_end new))

  -- nothing is read for the place at which a reader stands that has begun, and no line is taken for the front
  pub record StaysThere (old new : ArmoredReader R buf read) (target : ℕ) (result : Result ℕ Error) : Type 0 where
    pub still : has_failed old ≡ false → is_start old.stage ≡ false → place_of old ≡ target → (result ≡ Ok target) × (new ≡ old)
    pub unmoved : WhereSteady old (has_failed old ≡ false → place_of old ≡ target → OnOk result (lines_of new ≤ lines_of old))

  -- Where each mark had memory, few lines are taken to where the text was read before. Once the end is known, nothing changes for a
  -- target outside of it.
  pub record SparesReading (old new : ArmoredReader R buf read) (to : SeekFrom) (result : Result ℕ Error) : Type 0 where
    pub lines : WhereSteady old (IsTrue (notes_all old) → IsNear to (place_of old) (furthest_of old) (knows_end old)
        → OnOk result (lines_of new ≤ lines_of old + 1024))
    pub outside : WhereSteady old (IsTrue (knows_end old) → IfErr result (λ e. IsOutside e → new ≡ old))

  -- the same of a whole seek, which goes back to its place after such a refusal, and takes no line for that
  pub record TakesFew (old new : ArmoredReader R buf read) (to : SeekFrom) (result : Result ℕ Error) : Type 0 where
    pub lines : WhereSteady old (IsTrue (notes_all old) → IsNear to (place_of old) (furthest_of old) (knows_end old)
        → OnOk result (lines_of new ≤ lines_of old + 1024))
    pub outside : WhereSteady old (IsTrue (knows_end old) → IfErr result (λ e. IsOutside e → lines_of new ≤ lines_of old))
