-- What a reader of armor always is, as its type says.
use Rattle.std.specs.Prelude.{Bool, IsTrue, List, [], false, length, true, ℕ, ◌*◌, ◌+◌, ◌-◌, ◌<◌, ◌≡◌, ◌≤◌, ◌^◌}
use Rattle.age_io.specs.declared.traits.Read.{Ghosts}
use Rattle.age_io.specs.declared.bufread.BufRead as buffered
use Rattle.age_io.specs.Reading.{most_faults}
use Rattle.age_io.specs.Stretch.{Stretch, from_place, nothing}
use Rattle.age_v1.specs.DeliveredArmor.{begins_armor}
use Rattle.age_v1.proofs.DeliveredArmors.{content_of}
use Rattle.age_armor.specs.declared.counted.Counted.{Counted}
use Rattle.age_armor.specs.declared.marks.Marks.{Marks}
use Rattle.age_armor.specs.declared.stages.Stage.{Stage}
use Rattle.age_armor.specs.declared.stages.Stage.TheVariants.{Binary}
use Rattle.age_armor.specs.Ahead.{outcome_ahead, rest_ahead}
use Rattle.age_armor.specs.Marks.{is_known}
use Rattle.age_armor.specs.PrivateMarks.{IsPaced, Knows}
use Rattle.age_armor.specs.PrivateStages.{FindsForm, is_ended}
use Rattle.age_armor.specs.Seeking.{text_outcome}
use Rattle.age_armor.specs.Stages.{has_lines, is_start}

module _ {R : Type 0} {buf : buffered.Ghosts R} {read : Ghosts R} where
  -- where the text begins in the content of the reader that gives it
  abbrev pub origin_in : Counted R buf read → ℕ → ℕ
  origin_in source preceding = read.place source.inner - source.taken + preceding

  -- the text
  abbrev pub text_in : Counted R buf read → ℕ → Stretch
  text_in source preceding = from_place (origin_in source preceding) (read.content source.inner)

  -- what the text carries
  abbrev pub carried_in : Counted R buf read → ℕ → Stretch
  carried_in source preceding = content_of (read.content source.inner) (origin_in source preceding)

  -- what it has before it is what the text carries from its place on, and comes to the text's end
  pub record IsHere (source : Counted R buf read) (preceding : ℕ) (stage : Stage) (held : List ℕ) (place : ℕ) (failed : Bool) : Type 0 where
    pub rest : rest_ahead failed held stage (read.rest source.inner) ≡ from_place place (carried_in source preceding)
    pub ending : (outcome_ahead held stage (read.rest source.inner)).ending
        ≡ (text_outcome (read.content source.inner) (origin_in source preceding)).ending

  -- Where it stands in a text that it reads from a steady reader: at its place, if it hasn't failed and has begun, or if anything is left.
  -- Once it has begun it knows the form of the text. One that went back to the front after bytes were read has seen armor.
  pub record IsInText (source : Counted R buf read) (preceding : ℕ) (stage : Stage) (held : List ℕ) (place : ℕ) (failed : Bool)
      (marks : Marks) : Type 0 where
    pub behind : preceding ≤ source.taken
    pub inside : place ≤ length (carried_in source preceding).bytes
    pub here : failed ≡ false → is_start stage ≡ false → IsHere source preceding stage held place failed
    pub follows : (rest_ahead failed held stage (read.rest source.inner) ≡ nothing → ⊥) → IsHere source preceding stage held place failed
    pub form : is_start stage ≡ false → FindsForm (has_lines stage) (text_in source preceding).bytes
    pub unread : is_start stage ≡ true → 0 < marks.furthest → IsTrue (begins_armor (text_in source preceding).bytes)

  -- What a reader of armor always is: it has failed, or it has taken from the reader below what it gave and holds, and a line at a time.
  -- Whether or not it has failed, what it knows of the text is right, and its place stands in what the text carries.
  pub record IsSound (source : Counted R buf read) (preceding : ℕ) (stage : Stage) (held : List ℕ) (place : ℕ) (failed : Bool)
      (marks : Marks) : Type 0 where
    -- of one that hasn't failed
    pub fresh : failed ≡ false → is_start stage ≡ true → held ≡ []
    pub untaken : failed ≡ false → is_start stage ≡ true → source.taken ≡ preceding
    pub unspent : failed ≡ false → is_start stage ≡ false → read.faults source.inner < most_faults
    pub counted : IsTrue (read.tells source.inner) → failed ≡ false → place + length held + preceding ≤ source.taken
    pub paced : IsTrue (read.tells source.inner) → failed ≡ false → IsPaced stage place (length held) marks.furthest
    -- of each
    pub begins : IsTrue (read.tells source.inner) → origin_in source preceding < 2 ^ 63
    pub fits : IsTrue (read.tells source.inner) → place < 2 ^ 63
    pub known : IsTrue (read.tells source.inner) → Knows (read.steady source.inner) (text_in source preceding) marks
    pub lined : IsTrue (read.tells source.inner) → (stage ≡ Binary → ⊥) → marks.furthest ≤ 48 * source.lines
    pub done : is_ended stage ≡ true → is_known marks.length ≡ true
    pub text : IsTrue (read.tells source.inner) → IsTrue (read.steady source.inner) → IsInText source preceding stage held place failed marks
