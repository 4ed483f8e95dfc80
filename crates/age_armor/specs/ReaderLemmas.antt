-- The laws of a reader of armor, over its parts.
use Rattle.std.specs.Prelude.{◌≡◌, ℕ, ◌<◌, Bool, true, false, IsTrue, List, [], ◌∷◌, length, drop, nat_lt, nat_eq, ◌||◌, if◌then◌else◌, refl}
use Rattle.std.proofs.Common.{arith, sym, ◌∙◌, inl, inr}
use Rattle.std.proofs.lemmas.Bool.{true≢false, cases_Bool}
use Rattle.std.specs.List.{concat, starts_with}
use Rattle.age_io.specs.Stretch.{Stretch, nothing}
use Rattle.age_io.specs.Reading.{most_faults}
use Rattle.age_v1.specs.Armor.{begin_marker}
use Rattle.age_v1.specs.ArmorLineVerdict.{LineVerdict, Refuses, Ends, Holds, verdict, is_short, line_columns, last_is}
use Rattle.age_armor.specs.declared.stages.Stage.{Stage}
use Rattle.age_armor.specs.declared.stages.Stage.TheVariants.{Start, Binary, Lines, Ended}
use Rattle.age_v1.specs.DeliveredArmor.{Outcome, Ending, is_clean, is_space, trailing, after_line, section, raw_lines, text_delivers, stretch_of}
use Rattle.age_armor.specs.Stages.{is_start}
use Rattle.age_armor.specs.Ahead.{rest_ahead}
use Rattle.age_v1.proofs.DeliveredArmors.{content_of}

-- ---- where the inner reader ends badly, so does the text

dirty_trailing : (text : List ℕ) → is_clean (trailing text false) ≡ false
dirty_trailing [] = refl
dirty_trailing (b ∷ text) = elim (cases_Bool (is_space b)) [ inl e ↦ rw e (dirty_trailing text) | inr e ↦ rw e refl ]

dirty_line : (v : LineVerdict) (next : Outcome) (end : Ending) → is_clean next.ending ≡ false → is_clean end ≡ false
    → is_clean (after_line v next end).ending ≡ false
dirty_line (Refuses e) next end h k = refl
dirty_line Ends next end h k = k
dirty_line (Holds b) next end h k = h

if_dirty : (c : Bool) (x y : Outcome) → is_clean x.ending ≡ false → is_clean y.ending ≡ false → is_clean (if c then x else y).ending ≡ false
if_dirty true x y h k = h
if_dirty false x y h k = k

dirty_section : (ls : List (List ℕ)) (s : Bool) → is_clean (section s ls false).ending ≡ false
dirty_section [] s = refl
dirty_section (raw ∷ more) s =
    if_dirty (false || last_is 10 raw) _ _
    (dirty_line (verdict s raw) (section (is_short (line_columns raw)) more false) (trailing (concat more) false)
    (dirty_section more (is_short (line_columns raw))) (dirty_trailing (concat more)))
    refl

dirty_delivered : (text : List ℕ) → is_clean (text_delivers text false).ending ≡ false
unfolding text_delivers
dirty_delivered text = elim (cases_Bool (nat_lt (length text) 36)) [
  | inl e ↦ rw e refl
  | inr e ↦ elim (cases_Bool (starts_with nat_eq text begin_marker)) [
    | inr f ↦ rw (e, f) refl
    | inl f ↦ elim (cases_Bool (starts_with nat_eq (drop 34 text) (10 ∷ []))) [
      | inl lf ↦ rw (e, f, lf) (dirty_section (raw_lines (drop 1 (drop 34 text))) false)
      | inr no_lf ↦ elim (cases_Bool (starts_with nat_eq (drop 34 text) (13 ∷ 10 ∷ []))) [
        | inl crlf ↦ rw (e, f, no_lf, crlf) (dirty_section (raw_lines (drop 2 (drop 34 text))) false)
        | inr no_crlf ↦ rw (e, f, no_lf, no_crlf) refl
      ]
    ]
  ]
]

pub clean_well : (text : List ℕ) (w : Bool) → is_clean (text_delivers text w).ending ≡ true → w ≡ true
clean_well text true e = refl
clean_well text false e = absurd (true≢false (sym e ∙ dirty_delivered text))

-- a text ends well only where the reader that gives it does
pub well_inner : (content : Stretch) (origin : ℕ) → IsTrue (content_of content origin).ends_well → IsTrue content.ends_well
well_inner content origin well = clean_well (drop origin content.bytes) content.ends_well well

-- ---- a reader whose count of faults is used up

pub nothing_delivered : stretch_of (text_delivers [] false) ≡ nothing
unfolding text_delivers
nothing_delivered = refl

begun_not : {X : Type 0} (faults : ℕ) → faults < most_faults → faults ≡ most_faults → X
begun_not faults below is = absurd (omega (arith, below, is))

pub spent_ahead : (failed : Bool) (held : List ℕ) (stage : Stage) (rest : Stretch) (faults : ℕ) →
    (failed ≡ false → is_start stage ≡ true → held ≡ []) → (failed ≡ false → is_start stage ≡ false → faults < most_faults) →
    faults ≡ most_faults → rest ≡ nothing → rest_ahead failed held stage rest ≡ nothing
unfolding rest_ahead
spent_ahead true held stage rest faults fresh unspent is gone = refl
spent_ahead false held Start rest faults fresh unspent is gone =
    rw (fresh refl refl, gone) nothing_delivered
spent_ahead false held Binary rest faults fresh unspent is gone = begun_not faults (unspent refl refl) is
spent_ahead false held (Lines s) rest faults fresh unspent is gone = begun_not faults (unspent refl refl) is
spent_ahead false held Ended rest faults fresh unspent is gone = begun_not faults (unspent refl refl) is
