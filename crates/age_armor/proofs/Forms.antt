-- Whether a text begins as armor does, as a reader finds it out, and where it leaves the reader that gives the text.
use Rattle.std.proofs.Common.{subst, ◌≡◌, ℕ, ◌+◌, ◌<◌, Bool, true, false, List, drop, length, refl, ap, sym, arith, ◌∙◌, inl, inr, length-drop}
use Rattle.std.proofs.lemmas.List.{drop-drop}
use Rattle.std.proofs.lemmas.Bool.{cases_Bool, true≢false}
use Rattle.age_io.specs.Stretch.{Stretch, from_place}
use Rattle.age_io.specs.Reading.{Delivers, StandsIn}
use Rattle.age_armor.specs.declared.stages.Stage.{Stage}
use Rattle.age_armor.specs.declared.stages.Stage.TheVariants.{Start, Binary, Lines, Ended}
use Rattle.age_v1.specs.DeliveredArmor.{Clean, is_clean, at_end, begins_armor}
use Rattle.age_armor.specs.Stages.{is_start, has_lines}
use Rattle.age_armor.specs.PrivateStages.{FindsForm}
use Rattle.age_armor.specs.Ahead.{rest_ahead, shown_ahead}

form_found : (content rest : Stretch) (place origin : ℕ) (armored : Bool) → StandsIn content place rest → origin ≡ place
    → FindsForm armored rest.bytes →
    FindsForm armored (from_place origin content).bytes
form_found content rest place origin armored stands at found = elim stands.reaches [
  | inl e ↦ rw at (subst (λ s. FindsForm armored s.bytes) e found)
  | inr e ↦ absurd (omega (arith, found.long, ap (λ s. length s.bytes) e))
]

-- the first bytes tell it, and what comes after them keeps it
pub form_held : (content rest text : Stretch) (place origin : ℕ) (stage next : Stage) → StandsIn content place rest
    → (is_start stage ≡ true → origin ≡ place) →
    (is_start stage ≡ true → FindsForm (has_lines next) rest.bytes) → (is_start stage ≡ false → has_lines next ≡ has_lines stage) →
    (is_start stage ≡ false → FindsForm (has_lines stage) (from_place origin content).bytes) →
    text ≡ from_place origin content → FindsForm (has_lines next) text.bytes
form_held content rest text place origin stage next stands at found kept before same = elim (cases_Bool (is_start stage)) [
  | inl start ↦ rw same (form_found content rest place origin (has_lines next) stands (at start) (found start))
  | inr begun ↦ rw (same, kept begun) (before begun)
]

pub form_kept : (armored : Bool) (old new : Stretch) → FindsForm armored old.bytes → new ≡ old → FindsForm armored new.bytes
form_kept armored old new is same = rw same is

-- a text that doesn't begin as armor does is read without lines
pub plain_stage : (stage : Stage) (text : Stretch) → (is_start stage ≡ false → FindsForm (has_lines stage) text.bytes)
    → begins_armor text.bytes ≡ false →
    has_lines stage ≡ false
plain_stage Start text form plain = refl
plain_stage Binary text form plain = refl
plain_stage (Lines s) text form plain = (form refl).same ∙ plain
plain_stage Ended text form plain = (form refl).same ∙ plain

pub plain_rest : (content rest : Stretch) (place origin : ℕ) → StandsIn content place rest → origin ≡ place
    → begins_armor (from_place origin content).bytes ≡ false →
    begins_armor rest.bytes ≡ false
plain_rest content rest place origin stands at plain = elim stands.reaches [
  | inl e ↦ ap (λ s. begins_armor s.bytes) e ∙ (rw at at plain)
  | inr e ↦ ap (λ s. begins_armor s.bytes) e
]

-- ---- the reader that gives the text, handed back

-- where it stands in the text
pub stands_in_text : (content rest : Stretch) (place origin taken : ℕ) → origin + taken ≡ place → StandsIn content place rest →
    StandsIn (from_place origin content) taken rest
stands_in_text content rest place origin taken at stands =
    let same : from_place place content ≡ from_place taken (from_place origin content) =
    sym (ap (λ bytes. stretch bytes content.ends_well) (drop-drop taken origin content.bytes ∙ ap (λ n. drop n content.bytes) at)) in
    record {
      within = omega (arith, stands.within, at, length-drop origin content.bytes);
      reaches = elim stands.reaches [ inl e ↦ inl (e ∙ same) | inr e ↦ inr e ];
    }
  where
    stretch : List ℕ → Bool → Stretch
    stretch bytes ends_well = record { bytes = bytes; ends_well = ends_well }

found_binary : {X : Type 0} (stage : Stage) → (is_start stage ≡ true → X) → has_lines stage ≡ false → (stage ≡ Binary → X) → X
found_binary Start start armored binary = start refl
found_binary Binary start armored binary = binary refl
found_binary (Lines s) start armored binary = absurd (true≢false armored)
found_binary Ended start armored binary = absurd (true≢false armored)

end_passes : (w : Bool) → w ≡ is_clean (at_end w Clean)
end_passes true = refl
end_passes false = refl

-- of a binary text it has what comes after what is held
pub binary_left : (failed : Bool) (held : List ℕ) (taken : ℕ) (stage : Stage) (rest : Stretch) → failed ≡ false →
    (is_start stage ≡ true → taken ≡ 0) → has_lines stage ≡ false → 0 < taken →
    Delivers (shown_ahead failed held) (rest_ahead failed held stage rest) rest
unfolding rest_ahead shown_ahead
binary_left failed held taken stage rest good none plain some =
    found_binary stage (λ start. absurd (omega (arith, none start, some))) plain
    (λ binary. rw (good, binary) (record { bytes = refl; end = end_passes rest.ends_well }))

-- ---- a text that isn't armor

-- a text that passes unchanged doesn't begin so
pub binary_form : {X : Type 0} (stage : Stage) (text : Stretch) → stage ≡ Binary → FindsForm (has_lines stage) text.bytes →
    begins_armor text.bytes ≡ true → X
binary_form stage text binary is armor = absurd (true≢false (sym armor ∙ sym is.same ∙ ap has_lines binary))
