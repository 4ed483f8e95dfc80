-- What a reader knows of its text, and how it is read on from a mark.
use Rattle.std.proofs.Common.{le-ltb, nat_lt, nat_eq, ◌≡◌, ◌∙◌, inl, inr, ℕ, ◌+◌, ◌%◌, ◌<◌, ◌≤◌, ◌⊎◌, Bool, true, false, IsTrue, List, [], ◌∷◌, ◌++◌, length, drop, refl, arith, ap, sym, subst, length-append, length-drop}
use Rattle.std.proofs.lemmas.Bool.{true≢false}
use Rattle.std.proofs.lemmas.List.{drop-drop, nil_from_length}
use Rattle.age_io.specs.Stretch.{Stretch, nothing, from_place, stretch-ext, IsCleanEnd}
use Rattle.age_io.specs.Reading.{Delivers, StandsIn}
use Rattle.age_armor.specs.declared.marks.Marks.{Marks}
use Rattle.age_armor.specs.declared.stages.Stage.{Stage}
use Rattle.age_armor.specs.declared.stages.Stage.TheVariants.{Start, Binary, Lines, Ended}
use Rattle.age_armor.specs.Stages.{ahead, is_start, has_lines}
use Rattle.age_armor.specs.PrivateStages.{Advances, FindsForm, is_ended}
use Rattle.age_armor.specs.Ahead.{outcome_ahead, rest_ahead}
use Rattle.std.specs.List.{starts_with}
use Rattle.age_v1.specs.Armor.{begin_marker}
use Rattle.age_v1.specs.DeliveredArmor.{Outcome, Clean, at_end, is_clean, outcome_after, stretch_of, raw_lines, text_delivers, begins_armor}
use Rattle.age_v1.proofs.DeliveredArmors.{content_of, stands_follows}
use Rattle.age_armor.specs.PrivateMarks.{Resumes, IsLength, Knows}
use Rattle.age_armor.specs.ReaderLemmas.{nothing_delivered}
use Rattle.age_armor.proofs.Staging.{none_after_short}
use Rattle.age_armor.proofs.Walking.{ends_at}

-- what is known stays known of the same text
pub knows_later : (old new : Bool) (text same : Stretch) (marks : Marks) → (IsTrue new → IsTrue old) → same ≡ text → Knows old text marks
    → Knows new same marks
knows_later old new text same marks steady is knows = rw is (record {
  each = λ index taken at. let mark = knows.each index taken at in (mark.0, λ now. mark.1 (steady now));
  end = λ n at now. knows.end n at (steady now);
  met = knows.met;
  passed = knows.passed;
  inside = λ now. knows.inside (steady now);
  near = λ now. knows.near (steady now);
})

-- where something is left after bytes that were read, something was left before them
pub some_before : (rest new : Stretch) (front : List ℕ) → Delivers front rest new → (new ≡ nothing → ⊥) → rest ≡ nothing → ⊥
some_before rest new front d some gone =
    let none : [] ≡ front ++ new.bytes = ap (λ s. s.bytes) (sym gone) ∙ d.bytes in
    some (stretch-ext new nothing (nil_from_length new.bytes (omega (arith, ap length none, length-append front new.bytes)))
    (d.end ∙ ap (λ s. s.ends_well) gone))

-- behind the front and so many bytes, or behind these bytes of the text
pub along_text : (content : Stretch) (origin taken : ℕ) → from_place (origin + taken) content ≡ from_place taken (from_place origin content)
along_text content origin taken = ap (λ bytes. stretch bytes content.ends_well) (sym (drop-drop taken origin content.bytes))
  where
    stretch : List ℕ → Bool → Stretch
    stretch bytes ends_well = record { bytes = bytes; ends_well = ends_well }

-- ---- a line that was read can be read again

module _ (content rest : Stretch) (at origin taken : ℕ) (place : ℕ) (held : List ℕ) where
  pub resumes_line : (stage : Stage) (after : Outcome) (front : List ℕ) → stage ≡ Lines false → origin + taken ≡ at → StandsIn content at rest
      → held ≡ [] →
      Advances (ahead stage rest) front after → 0 < length front → place ≤ length (content_of content origin).bytes →
      ((rest_ahead false held stage rest ≡ nothing → ⊥) → rest_ahead false held stage rest ≡ from_place place (content_of content origin)) →
      ((rest_ahead false held stage rest ≡ nothing → ⊥) →
      (outcome_ahead held stage rest).ending ≡ (text_delivers (drop origin content.bytes) content.ends_well).ending) →
      FindsForm (has_lines stage) (from_place origin content).bytes →
      Resumes (from_place origin content) (Lines false) place taken
  unfolding rest_ahead outcome_ahead
  resumes_line stage after front lines behind stands none advances some within follows ends form =
      let bytes_ahead : (ahead (Lines false) rest).bytes ≡ front ++ after.bytes =
      ap (λ o. o.bytes) (subst (λ s. ahead s rest ≡ outcome_after front after) lines advances.same) in
      let left : (stretch_of (ahead (Lines false) rest) ≡ nothing → ⊥) = λ gone.
      let no_bytes : [] ≡ front ++ after.bytes = ap (λ s. s.bytes) (sym gone) ∙ bytes_ahead in
      omega (arith, ap length no_bytes, length-append front after.bytes, some) in
      let here : rest ≡ from_place at content = stands_follows content rest at stands (λ gone. left (rw gone refl)) in
      let same : from_place taken (from_place origin content) ≡ rest =
      sym (along_text content origin taken) ∙ ap (λ n. from_place n content) behind ∙ sym here in
      record {
        rest = ap (λ s. stretch_of (ahead (Lines false) s)) same ∙ (rw (lines, none) at follows) left;
        ending = ap (λ s. (ahead (Lines false) s).ending) same ∙ (rw (lines, none) at ends) left;
        within = within;
        reaches = omega (arith, length-drop origin content.bytes, stands.within, behind);
        form = λ begun. rw lines at form;
      }

-- ---- how far a reader comes

-- what begins with bytes, or is a clean end, isn't nothing
pub not_nothing : (rest : Stretch) (front more : List ℕ) (count : ℕ) → rest.bytes ≡ front ++ more → length front ≡ count
    → (count ≡ 0 → IsCleanEnd rest) → rest ≡ nothing → ⊥
not_nothing rest [] more count bytes size clean gone = true≢false (sym (clean (sym size)).ends_well ∙ ap (λ s. s.ends_well) gone)
not_nothing rest (b ∷ front) more count bytes size clean gone =
    let none : [] ≡ b ∷ front ++ more = ap (λ s. s.bytes) (sym gone) ∙ bytes in
    omega (arith, ap length none)

-- bytes that were read from a place stand in the content
pub reaches_content : (content rest : Stretch) (place count : ℕ) (front more : List ℕ) → place ≤ length content.bytes →
    ((rest ≡ nothing → ⊥) → rest ≡ from_place place content) → rest.bytes ≡ front ++ more → length front ≡ count
    → place + count ≤ length content.bytes
reaches_content content rest place count [] more within follows bytes size = omega (arith, within, size)
reaches_content content rest place count (b ∷ front) more within follows bytes size =
    let some = not_nothing rest (b ∷ front) more count bytes size (λ none. absurd (omega (arith, size, none))) in
    let here : drop place content.bytes ≡ (b ∷ front) ++ more = ap (λ s. s.bytes) (sym (follows some)) ∙ bytes in
    omega (arith, within, size, ap length here, length-append (b ∷ front) more, length-drop place content.bytes)

-- after a short line none come
pub none_after : (stage : Stage) (rest : Stretch) (front : List ℕ) (count : ℕ) (after : Outcome) → Advances (ahead stage rest) front after
    → length front ≡ count →
    stage ≡ Lines true → count ≡ 0
none_after stage rest front count after advances size short =
    let bytes : (ahead (Lines true) rest).bytes ≡ front ++ after.bytes =
    ap (λ o. o.bytes) (subst (λ s. ahead s rest ≡ outcome_after front after) short advances.same) in
    let none : [] ≡ front ++ after.bytes = sym (none_after_short (raw_lines rest.bytes) rest.ends_well) ∙ bytes in
    omega (arith, size, ap length none, length-append front after.bytes)

-- full lines are behind full ones alone
pub still_full : (stage next : Stage) (place count : ℕ) → is_ended stage ≡ false → (is_start stage ≡ false → has_lines next ≡ has_lines stage) →
    (is_start stage ≡ true → place ≡ 0) → (stage ≡ Lines false → place % 48 ≡ 0) → (stage ≡ Lines true → count ≡ 0)
    → (next ≡ Lines false → count ≡ 48) →
    next ≡ Lines false → (place + count) % 48 ≡ 0
still_full Start next place count opens form first lines short full is = omega (arith, first refl, full is)
still_full Binary next place count opens form first lines short full is = absurd (true≢false (sym (ap has_lines is) ∙ form refl))
still_full (Lines true) next place count opens form first lines short full is = absurd (omega (arith, short refl, full is))
still_full (Lines false) next place count opens form first lines short full is = omega (arith, lines refl, full is)
still_full Ended next place count opens form first lines short full is = absurd (true≢false opens)

-- in armor bytes come at the front, or after full lines
pub after_full : (stage : Stage) (place count : ℕ) (text : List ℕ) → is_ended stage ≡ false
    → (is_start stage ≡ false → FindsForm (has_lines stage) text) →
    (is_start stage ≡ true → place ≡ 0) → (stage ≡ Lines false → place % 48 ≡ 0) → (stage ≡ Lines true → count ≡ 0) → count ≤ 48 →
    IsTrue (begins_armor text) → 0 < count → (place % 48 ≡ 0) × (count ≤ 48) × ((stage ≡ Lines false) ⊎ (place ≡ 0))
after_full Start place count text opens form first lines short fits armored some = (omega (arith, first refl), fits, inr (first refl))
after_full Binary place count text opens form first lines short fits armored some = absurd (true≢false (sym armored ∙ sym (form refl).same))
after_full (Lines true) place count text opens form first lines short fits armored some = absurd (omega (arith, short refl, some))
after_full (Lines false) place count text opens form first lines short fits armored some = (lines refl, fits, inl refl)
after_full Ended place count text opens form first lines short fits armored some = absurd (true≢false opens)

-- ---- the end of a text

pub length_at_end : (content rest : Stretch) (origin place : ℕ) → IsCleanEnd rest → place ≤ length (content_of content origin).bytes →
    ((rest ≡ nothing → ⊥) → rest ≡ from_place place (content_of content origin)) → IsLength (from_place origin content) place
length_at_end content rest origin place clean within follows =
    let some : (rest ≡ nothing → ⊥) = λ gone. true≢false (sym clean.ends_well ∙ ap (λ s. s.ends_well) gone) in
    let end = ends_at (content_of content origin) rest place (follows some) clean within in
    record { well = end.0; same = end.1 }

-- a line of armor isn't binary
pub not_binary : {X : Type 0} → Binary ≡ Lines false → X
not_binary is = absurd (true≢false (sym (ap has_lines is)))

-- ---- a new reader

pub starts_at : (content rest : Stretch) (place : ℕ) (held : List ℕ) → held ≡ [] → StandsIn content place rest →
    (rest_ahead false held Start rest ≡ nothing → ⊥) → rest ≡ from_place place content
unfolding rest_ahead
starts_at content rest place held none stands some =
    stands_follows content rest place stands
    (λ gone. some (rw none (ap (λ s. stretch_of (text_delivers s.bytes s.ends_well)) gone ∙ nothing_delivered)))

-- ---- a reader that is taken to a mark

pub resumed_rest : (content rest : Stretch) (origin place taken : ℕ) (stage : Stage) (held : List ℕ) → held ≡ [] →
    Resumes (from_place origin content) stage place taken → rest ≡ from_place (origin + taken) content →
    rest_ahead false held stage rest ≡ from_place place (content_of content origin)
unfolding rest_ahead
resumed_rest content rest origin place taken stage held none resumes here =
    rw none (ap (λ s. stretch_of (ahead stage s)) (here ∙ along_text content origin taken) ∙ resumes.rest)

pub resumed_ending : (content rest : Stretch) (origin place taken : ℕ) (stage : Stage) (held : List ℕ)
    → Resumes (from_place origin content) stage place taken →
    rest ≡ from_place (origin + taken) content
    → (outcome_ahead held stage rest).ending ≡ (text_delivers (drop origin content.bytes) content.ends_well).ending
unfolding outcome_ahead
resumed_ending content rest origin place taken stage held resumes here =
    ap (λ s. (ahead stage s).ending) (here ∙ along_text content origin taken) ∙ resumes.ending

-- ---- a binary text

-- it passes unchanged
pub carried_binary : (text : Stretch) → FindsForm false text.bytes →
    text_delivers text.bytes text.ends_well ≡ record { bytes = text.bytes; ending = at_end text.ends_well Clean }
unfolding text_delivers
carried_binary text form =
    let long : nat_lt (length text.bytes) 36 ≡ false = le-ltb (length text.bytes) 36 form.long in
    let plain : starts_with nat_eq text.bytes begin_marker ≡ false = sym form.same in
    rw (long, plain) refl

-- so it can be read on from each of its places
pub resumes_binary : (text : Stretch) (place : ℕ) → FindsForm false text.bytes → place ≤ length text.bytes → Resumes text Binary place place
resumes_binary text place form within =
    let is = carried_binary text form in
    record {
      rest = sym (ap (λ o. from_place place (stretch_of o)) is);
      ending = sym (ap (λ o. o.ending) is);
      within = subst (λ o. place ≤ length o.bytes) (sym is) within;
      reaches = within;
      form = λ begun. form;
    }

ends_clean : (w : Bool) → IsTrue w → IsTrue (is_clean (at_end w Clean))
ends_clean true well = well
ends_clean false well = well

-- of such a text the length is that of what it carries
pub length_binary : (text : Stretch) (n : ℕ) → FindsForm false text.bytes → n ≡ length text.bytes → IsTrue text.ends_well → IsLength text n
length_binary text n form same well =
    let is = carried_binary text form in
    record {
      well = subst (λ o. IsTrue (is_clean o.ending)) (sym is) (ends_clean text.ends_well well);
      same = same ∙ ap (λ o. length o.bytes) (sym is);
    }

-- a text that doesn't begin as armor does is binary once anything was read
pub is_plain : (stage : Stage) → is_start stage ≡ false → has_lines stage ≡ false → (stage ≡ Binary → ⊥) → ⊥
is_plain Start begun plain other = true≢false begun
is_plain Binary begun plain other = other refl
is_plain (Lines s) begun plain other = true≢false plain
is_plain Ended begun plain other = true≢false plain

-- and any other begins so
pub armored_stage : (stage : Stage) (text : Stretch) → is_start stage ≡ false → FindsForm (has_lines stage) text.bytes → (stage ≡ Binary → ⊥) →
    IsTrue (begins_armor text.bytes)
armored_stage Start text begun form other = absurd (true≢false begun)
armored_stage Binary text begun form other = absurd (other refl)
armored_stage (Lines s) text begun form other = sym form.same
armored_stage Ended text begun form other = sym form.same

-- at its clean end nothing is left of it
pub clean_binary : (held : List ℕ) (stage : Stage) (rest : Stretch) → held ≡ [] → stage ≡ Binary → IsCleanEnd rest →
    IsCleanEnd (rest_ahead false held stage rest)
unfolding rest_ahead
clean_binary held stage rest none binary clean = rw (binary, none) (record {
  bytes = clean.bytes;
  ends_well = ends_clean rest.ends_well clean.ends_well;
})
