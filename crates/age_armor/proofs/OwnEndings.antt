-- How a text may end: never with the refusal of a seek, and so where nothing else is left of it.
use Rattle.std.proofs.Common.{◌≡◌, ◌∙◌, ℕ, Bool, true, false, ◌||◌, List, [], ◌∷◌, length, drop, ap, inl, inr, nat_lt, nat_eq, refl, subst, sym, if◌then◌else◌}
use Rattle.std.proofs.lemmas.Bool.{cases_Bool}
use Rattle.std.specs.List.{concat, starts_with}
use Rattle.age_error.specs.declared.io.Error.{Error}
use Rattle.age_error.specs.declared.io.Error.TheVariants.{UnexpectedEof, Armor}
use Rattle.age_error.specs.declared.io.ArmoredReadError.{ArmoredReadError}
use Rattle.age_error.specs.declared.io.ArmoredReadError.TheVariants.{InvalidBeginMarker, NotWrappedAt64Chars, TrailingGarbage}
use Rattle.age_io.specs.Stretch.{Stretch}
use Rattle.age_io.specs.Reading.{StandsIn}
use Rattle.age_io.specs.Cursor.{IsOutside}
use Rattle.age_v1.specs.Armor.{begin_marker}
use Rattle.age_v1.specs.ArmorLineVerdict.{LineVerdict, Refuses, Ends, Holds, verdict, is_short, line_columns, last_is}
use Rattle.age_v1.specs.DeliveredArmor.{Outcome, Ending, Clean, Refused, InnerFault, at_end, is_space, trailing, after_line, section, raw_lines, after_marker, ends_in, text_delivers}
use Rattle.age_armor.specs.declared.stages.Stage.{Stage}
use Rattle.age_armor.specs.declared.stages.Stage.TheVariants.{Start, Binary, Lines, Ended}
use Rattle.age_armor.specs.Ahead.{outcome_ahead}
use Rattle.age_armor.specs.Seeking.{text_outcome}
use Rattle.age_armor.specs.Stages.{NamesEnding, ahead, is_start}

-- ---- what holds of each way in which a text may end

module _ (P : Ending → Type 0) (w : Bool) (clean : P (at_end w Clean)) (early : P (at_end w (Refused UnexpectedEof))) (none : P Clean)
    (fault : P InnerFault)
    (armor : (f : ArmoredReadError) → P (Refused (Armor f))) where
  each_short : (v : Bool) → v ≡ w → P (at_end v (Refused (Armor NotWrappedAt64Chars)))
  each_short true same = armor NotWrappedAt64Chars
  each_short false same = fault

  each_trailing : (text : List ℕ) → P (trailing text w)
  each_trailing [] = clean
  each_trailing (b ∷ text) = elim (cases_Bool (is_space b)) [ inl e ↦ rw e (each_trailing text) | inr e ↦ rw e (armor TrailingGarbage) ]

  each_line : (v : LineVerdict) (next : Outcome) (end : Ending) → P next.ending → P end → P (after_line v next end).ending
  each_line (Refuses e) next end h k = armor e
  each_line Ends next end h k = k
  each_line (Holds b) next end h k = h

  if_each : (c : Bool) (x y : Outcome) → P x.ending → P y.ending → P (if c then x else y).ending
  if_each true x y h k = h
  if_each false x y h k = k

  each_section : (ls : List (List ℕ)) (s : Bool) → P (section s ls w).ending
  each_section [] s = each_short w refl
  each_section (raw ∷ more) s =
      if_each (w || last_is 10 raw) _ _
      (each_line (verdict s raw) (section (is_short (line_columns raw)) more w) (trailing (concat more) w)
      (each_section more (is_short (line_columns raw))) (each_trailing (concat more)))
      fault

  each_marker : (text : List ℕ) → P (after_marker text w).ending
  each_marker text =
      if_each (starts_with nat_eq text (10 ∷ [])) _ _ (each_section (raw_lines (drop 1 text)) false)
      (if_each (starts_with nat_eq text (13 ∷ 10 ∷ [])) _ _ (each_section (raw_lines (drop 2 text)) false) (armor InvalidBeginMarker))

  each_delivered : (text : List ℕ) → P (text_delivers text w).ending
  unfolding text_delivers
  each_delivered text =
      if_each (nat_lt (length text) 36) _ _ early
      (if_each (starts_with nat_eq text begin_marker) _ _ (each_marker (drop 34 text)) clean)

-- ---- none is the refusal of a seek

abbrev IsOwn : Ending → Type 0
IsOwn Clean = Unit {0}
IsOwn (Refused e) = IsOutside e → ⊥
IsOwn InnerFault = Unit {0}

own_end : (ends_well : Bool) (e : Ending) → IsOwn e → IsOwn (at_end ends_well e)
own_end true e h = h
own_end false e h = tt

own_delivered : (text : List ℕ) (w : Bool) → IsOwn (text_delivers text w).ending
own_delivered text w = each_delivered IsOwn w (own_end w Clean tt) (own_end w (Refused UnexpectedEof) (λ r. r)) tt tt (λ f r. r) text

-- ---- a text ends so where nothing else is left of it

pub end_left : (content rest : Stretch) (place origin : ℕ) (held : List ℕ) (stage : Stage) (e : Error) → StandsIn content place rest →
    (is_start stage ≡ true → place ≡ origin) →
    (is_start stage ≡ false → (outcome_ahead held stage rest).ending ≡ (text_outcome content origin).ending) →
    ahead stage rest ≡ ends_in (Refused e) → (text_outcome content origin).ending ≡ Refused e
unfolding outcome_ahead text_delivers
end_left content rest place origin held Start e stands at begun end = elim stands.reaches [
  | inl is ↦
      subst (λ n. (text_outcome content n).ending ≡ Refused e) (at refl)
      (subst (λ s. (text_delivers s.bytes s.ends_well).ending ≡ Refused e) is (ap (λ o. o.ending) end))
  | inr gone ↦
      let clash : InnerFault ≡ Refused e = ap (λ o. o.ending) (subst (λ s. text_delivers s.bytes s.ends_well ≡ ends_in (Refused e)) gone end) in
      absurd (cc clash)
]
end_left content rest place origin held Binary e stands at begun end = sym (begun refl) ∙ ap (λ o. o.ending) end
end_left content rest place origin held (Lines s) e stands at begun end = sym (begun refl) ∙ ap (λ o. o.ending) end
end_left content rest place origin held Ended e stands at begun end = sym (begun refl) ∙ ap (λ o. o.ending) end

-- ---- under another name

named_otherwise : (ending : Ending) (e other : Error) → IsOwn ending → NamesEnding ending e → ((IsOutside e → ⊥) → other ≡ e)
    → NamesEnding ending other
named_otherwise Clean e other own named same = named
named_otherwise (Refused f) e other own named same = same (λ r. own (rw named at r)) ∙ named
named_otherwise InnerFault e other own named same = tt

-- where an error that isn't such a refusal stays as it is, it names the end as before
pub still_named : (text : List ℕ) (w : Bool) (e other : Error) → NamesEnding (text_delivers text w).ending e → ((IsOutside e → ⊥) → other ≡ e) →
    NamesEnding (text_delivers text w).ending other
still_named text w e other named same = named_otherwise (text_delivers text w).ending e other (own_delivered text w) named same
