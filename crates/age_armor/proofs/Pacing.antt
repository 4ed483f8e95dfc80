-- How many lines a walk takes.
use Rattle.std.proofs.Common.{◌≡◌, ◌∙◌, inl, inr, ℕ, ◌+◌, ◌*◌, ◌^◌, ◌<◌, ◌≤◌, Bool, true, false, List, [], ◌++◌, length, refl, arith, ap, sym, subst, length-append, Option, Some, None}
use Rattle.std.proofs.lemmas.Bool.{true≢false, cases_Bool, cases_lt}
use Rattle.age_io.specs.Stretch.{Stretch}
use Rattle.age_io.specs.Reading.{Delivers}
use Rattle.age_armor.specs.declared.stages.Stage.{Stage}
use Rattle.age_armor.specs.declared.stages.Stage.TheVariants.{Start, Binary, Lines, Ended}
use Rattle.age_armor.specs.Stages.{ahead, has_lines, is_start}
use Rattle.age_armor.specs.PrivateStages.{is_open}
use Rattle.age_armor.specs.Ahead.{rest_ahead, shown_ahead}
use Rattle.age_armor.specs.declared.marks.Marks.{Marks}
use Rattle.age_armor.specs.Marks.{LearnsMore, is_known}
use Rattle.age_armor.specs.PrivateMarks.{KnowsEndBefore}
use Rattle.age_v1.specs.DeliveredArmor.{raw_lines}
use Rattle.age_armor.specs.PrivateCounting.{TakesLines, IsCounted, one_line_more}
use Rattle.age_armor.proofs.Staging.{none_after_short}

opens_next : (stage : Stage) (rest : Stretch) (front more : List ℕ) → (ahead stage rest).bytes ≡ front ++ more → 0 < length front
    → is_open stage ≡ true
opens_next Start rest front more bytes some = refl
opens_next Binary rest front more bytes some = refl
opens_next (Lines false) rest front more bytes some = refl
opens_next (Lines true) rest front more bytes some =
    let none : [] ≡ front ++ more = sym (none_after_short (raw_lines rest.bytes) rest.ends_well) ∙ bytes in
    absurd (omega (arith, some, ap length none, length-append front more))
opens_next Ended rest front more bytes some = absurd (omega (arith, some, ap length bytes, length-append front more))

-- where bytes were found and none were held, neither a short line nor the end came before
pub open_stage : (failed : Bool) (held : List ℕ) (stage : Stage) (rest new : Stretch) (front : List ℕ) → failed ≡ false → held ≡ [] →
    Delivers front (rest_ahead failed held stage rest) new → 0 < length front → is_open stage ≡ true
unfolding rest_ahead
open_stage failed held stage rest new front good none delivers some =
    opens_next stage rest front new.bytes ((rw (good, none) at delivers).bytes) some

-- what a read takes on the way to the target is counted
pub counted_on : (old new : Stage) (start counted target place held lines next still more : ℕ) → TakesLines old new place held lines next still more →
    IsCounted old start counted target place held lines → place < target → (held ≡ 0 → is_open old ≡ true)
    → IsCounted new start counted target next still more
counted_on old new start counted target place held lines next still more takes before short opens = elim (cases_lt 0 held) [
  | inl some ↦
      let same = takes.held some in
      record {
        at_most = λ is. omega (arith, before.at_most (subst (λ s. is_open s ≡ true) same.0 is), same.1, same.2);
        bound = omega (arith, before.bound, same.1);
      }
  | inr none ↦
      let empty : held ≡ 0 = omega (arith, none) in
      let so_far = before.at_most (opens empty) in
      record {
        at_most = λ is. reached new so_far empty is takes;
        bound = omega (arith, so_far, empty, takes.more.1, short);
      }
]
  where
    reached : (new : Stage) → 48 * lines + start ≤ 48 * counted + place + held → held ≡ 0 → is_open new ≡ true
        → TakesLines old new place held lines next still more →
        48 * more + start ≤ 48 * counted + next + still
    reached Start so_far empty is takes = absurd (true≢false takes.begun)
    reached Binary so_far empty is takes = omega (arith, so_far, empty, takes.bare refl, takes.on)
    reached (Lines false) so_far empty is takes = omega (arith, so_far, empty, takes.more.1, takes.full empty refl)
    reached (Lines true) so_far empty is takes = absurd (true≢false (sym is))
    reached Ended so_far empty is takes = absurd (true≢false (sym is))

-- ---- what the lines that were counted stand for

pub other_than_binary : (stage : Stage) → is_start stage ≡ false → (stage ≡ Binary → ⊥) → has_lines stage ≡ true
other_than_binary Start begun other = absurd (true≢false begun)
other_than_binary Binary begun other = absurd (other refl)
other_than_binary (Lines short) begun other = refl
other_than_binary Ended begun other = refl

-- lines of armor don't come after a binary text
pub not_before : (stage next : Stage) → (is_start stage ≡ false → has_lines next ≡ has_lines stage) → has_lines next ≡ true → stage ≡ Binary → ⊥
not_before stage next kept armored binary = true≢false (sym armored ∙ kept (ap is_start binary) ∙ ap has_lines binary)

-- a line that was counted stands for what it holds
pub lined_on : (place count furthest lines more : ℕ) → place ≤ furthest → furthest ≤ 48 * lines → count ≤ 48 → place < 2 ^ 63 → lines ≤ more →
    more ≡ one_line_more lines → (furthest ≤ 48 * more) × (place + count ≤ 48 * more)
lined_on place count furthest lines more behind before small fits on is =
    (omega (arith, before, on), omega (arith, behind, before, small, fits, on, is))

-- ---- what is known of the text

pub learns_later : (old middle new : Marks) → LearnsMore old middle → LearnsMore middle new → LearnsMore old new
learns_later old middle new first last = record {
  further = omega (arith, first.further, last.further);
  end = λ known. last.end (first.end known);
  noting = λ noting. first.noting (last.noting noting);
}

pub learns_none : (old new : Marks) → new ≡ old → LearnsMore old new
learns_none old new same = rw same (record { further = omega arith; end = λ known. known; noting = λ noting. noting })

pub known_length : (length : Option ℕ) (place : ℕ) → KnowsEndBefore length place → (n : ℕ) × (length ≡ Some n) × (n < place)
known_length None place ends = absurd ends
known_length (Some n) place ends = (n, refl, ends)

pub some_length : (length : Option ℕ) → is_known length ≡ true → (n : ℕ) × (length ≡ Some n)
some_length None known = absurd (true≢false (sym known))
some_length (Some n) known = (n, refl)

-- a reader that holds bytes has begun, and hasn't failed
pub shown_begun : (failed : Bool) (held : List ℕ) (stage : Stage) → (failed ≡ false → is_start stage ≡ true → held ≡ []) →
    0 < length (shown_ahead failed held) → (failed ≡ false) × (is_start stage ≡ false)
unfolding shown_ahead
shown_begun true held stage fresh some = absurd (omega (arith, some))
shown_begun false held stage fresh some = elim (cases_Bool (is_start stage)) [
  | inl start ↦ absurd (omega (arith, some, ap length (fresh refl start)))
  | inr begun ↦ (refl, begun)
]
