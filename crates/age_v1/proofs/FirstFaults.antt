-- What delivers a refusal has that first fault, and the other way round.
use Rattle.std.proofs.Common.{◌≡◌, ℕ, ◌⊎◌, inl, inr, Bool, true, false, List, [], ◌∷◌, ◌++◌, refl, ap, sym, subst, ◌∙◌, append_assoc}
use Rattle.std.specs.List.{AllByRecursion, concat}
use Rattle.std.proofs.lemmas.Bool.{cases_Bool}
use Rattle.std.proofs.lemmas.List.{append-nil}
use Rattle.std.proofs.lemmas.Str.{IsUtf8-from_ascii}
use Rattle.std.proofs.lemmas.Str.Ascii.{IsAscii-nil}
use Rattle.age_error.specs.Bytes.{AreBytes}
use Rattle.age_error.specs.declared.io.Error.{Error}
use Rattle.age_error.specs.declared.io.Error.TheVariants.{Armor, UnexpectedEof}
use Rattle.age_error.specs.declared.io.ArmoredReadError.{ArmoredReadError}
use Rattle.age_error.specs.declared.io.ArmoredReadError.TheVariants.{InvalidBeginMarker, NotWrappedAt64Chars, TrailingGarbage}
use Rattle.age_base64.specs.Lines.{line, Lacks}
use Rattle.age_v1.specs.Armor.{IsSpace, Carries}
use Rattle.age_v1.specs.ArmorLineVerdict.{LineVerdict, Refuses, Ends, Holds, verdict, columns_verdict, IsLineVerdict, line_columns, is_short}
use Rattle.age_v1.specs.DeliveredArmor.{Ending, Clean, Refused, InnerFault, Outcome, ends_in, outcome_after, raw_lines, is_space, trailing, after_line, section, text_delivers}
use Rattle.age_v1.specs.ArmorFirstFault.{IsFirstLine, IsFaultAfter, HasBadLine, IsFirstFault}
use Rattle.age_v1.proofs.ArmorLineVerdicts.{one_verdict, passes_to, verdict_is}
use Rattle.age_v1.proofs.DeliveredArmors.{concat_raw}
use Rattle.age_v1.proofs.RawLines.{AreRaw, are_raw, raw_line, raw_lines_ended, raw_lines_last}
use Rattle.age_v1.proofs.ArmorShapes.{shape_of, early_delivers, plain_delivers, open_marker_delivers, marker_line_delivers}
use Rattle.age_v1.proofs.CarriedDelivered.{carried_delivered, spaces_end}
use Rattle.age_v1.proofs.CleanEnds.{delivered_carried, is_space_back, refused_clean}

refused_same : (e f : Error) → Path Ending (Refused e) (Refused f) → e ≡ f
refused_same e f p = cc p

outcome_is : (bytes x : List ℕ) (e f : Ending) → bytes ≡ x → e ≡ f
    → Path Outcome (record { bytes = bytes; ending = e }) (record { bytes = x; ending = f })
outcome_is bytes x e f p q =
    let make : List ℕ → Ending → Outcome = λ bytes ending. record { bytes = bytes; ending = ending } in
    ap (λ y. make y e) p ∙ ap (λ z. make x z) q

-- ---- what the first line of a text leads to

-- the verdict on the empty line at the end of input
empty_verdict : (s : Bool) → verdict s [] ≡ Refuses NotWrappedAt64Chars
empty_verdict s = passes_to s [] (IsUtf8-from_ascii [] IsAscii-nil) ∙ of_columns s
  where
    of_columns : (s : Bool) → columns_verdict s (line_columns []) ≡ Refuses NotWrappedAt64Chars
    of_columns true = refl
    of_columns false = refl

last_line : (text raw rest : List ℕ) → text ≡ raw ++ rest → Lacks 10 raw → rest ≡ []
    → (raw_lines text ≡ raw ∷ raw_lines rest) ⊎ ((raw ≡ []) × (text ≡ []))
last_line text [] rest whole lacks over = inr (refl, whole ∙ over)
last_line text (c ∷ raw) rest whole lacks over =
    let all : text ≡ c ∷ raw = whole ∙ ap (λ y. (c ∷ raw) ++ y) over ∙ append-nil (c ∷ raw) in
    inl (ap raw_lines all ∙ raw_lines_last c raw lacks ∙ ap (λ y. (c ∷ raw) ∷ raw_lines y) (sym over))

-- the first line is the first of the lines, or there is none
first_line : (text raw rest : List ℕ) → IsFirstLine text raw rest → (raw_lines text ≡ raw ∷ raw_lines rest) ⊎ ((raw ≡ []) × (text ≡ []))
first_line text raw rest p = elim p.stops [
  | inl (k, e, lacks) ↦
      let all : text ≡ k ++ 10 ∷ rest = p.whole ∙ ap (λ y. y ++ rest) e ∙ append_assoc k (10 ∷ []) rest in
      inl (ap raw_lines all ∙ raw_lines_ended k rest lacks ∙ ap (λ y. y ∷ raw_lines rest) (sym e))
  | inr (lacks, over) ↦ last_line text raw rest p.whole lacks over
]

section_step : (s : Bool) (raw rest : List ℕ) (v : LineVerdict) → IsLineVerdict s raw v →
    section s (raw ∷ raw_lines rest) true ≡ after_line v (section (is_short (line_columns raw)) (raw_lines rest) true) (trailing rest true)
section_step s raw rest v h =
    let next = section (is_short (line_columns raw)) (raw_lines rest) true in
    ap (λ u. after_line u next (trailing (concat (raw_lines rest)) true)) (verdict_is s raw v h)
    ∙ ap (λ t. after_line v next (trailing t true)) (concat_raw rest)

section_by : (s : Bool) (text raw rest : List ℕ) (v : LineVerdict) → IsFirstLine text raw rest → IsLineVerdict s raw v →
    section s (raw_lines text) true ≡ after_line v (section (is_short (line_columns raw)) (raw_lines rest) true) (trailing rest true)
section_by s text raw rest v line h = elim (first_line text raw rest line) [
  | inl lines ↦ ap (λ ls. section s ls true) lines ∙ section_step s raw rest v h
  | inr (none, over) ↦
      let is : Refuses NotWrappedAt64Chars ≡ v = sym (empty_verdict s) ∙ ap (verdict s) (sym none) ∙ verdict_is s raw v h in
      ap (λ t. section s (raw_lines t) true) over
      ∙ ap (λ u. after_line u (section (is_short (line_columns raw)) (raw_lines rest) true) (trailing rest true)) is
]

-- ---- a first fault is delivered

garbage_end : (t : List ℕ) → (AllByRecursion IsSpace t → ⊥) → trailing t true ≡ Refused (Armor TrailingGarbage)
garbage_end [] h = absurd (h tt)
garbage_end (b ∷ t) h = elim (cases_Bool (is_space b)) [
  | inl p ↦ rw p (garbage_end t (λ spaces. h (is_space_back b p, spaces)))
  | inr p ↦ rw p refl
]

fault_after : (pieces : List (List ℕ)) (s : Bool) (text : List ℕ) (e : ArmoredReadError) → IsFaultAfter s pieces text e →
    section s (raw_lines text) true ≡ record { bytes = concat pieces; ending = Refused (Armor e) }
fault_after [] s text e (raw, rest, line, inl h) = section_by s text raw rest (Refuses e) line h
fault_after [] s text e (raw, rest, line, inr (h, garbage, named)) =
    section_by s text raw rest Ends line h ∙ ap (λ f. ends_in f) (garbage_end rest garbage) ∙ ap (λ f. ends_in (Refused (Armor f))) (sym named)
fault_after (piece ∷ pieces) s text e (raw, rest, line, h, more) =
    section_by s text raw rest (Holds piece) line h ∙ ap (λ o. outcome_after piece o) (fault_after pieces (is_short (line_columns raw)) rest e more)

bad_line_delivered : (s : Bool) (text bytes : List ℕ) (e : Error) → HasBadLine s text bytes e
    → section s (raw_lines text) true ≡ record { bytes = bytes; ending = Refused e }
bad_line_delivered s text bytes e p =
    fault_after p.pieces s text p.fault p.after
    ∙ outcome_is (concat p.pieces) bytes (Refused (Armor p.fault)) (Refused e) (sym p.held) (ap (λ f. Refused f) (sym p.named))

pub fault_delivered : (text bytes : List ℕ) (e : Error) → IsFirstFault text bytes e
    → text_delivers text true ≡ record { bytes = bytes; ending = Refused e }
fault_delivered text bytes e (inl (short, none, named)) =
    early_delivers text true short ∙ outcome_is [] bytes (Refused UnexpectedEof) (Refused e) (sym none) (ap (λ f. Refused f) (sym named))
fault_delivered text bytes e (inr (inl (m, none, named))) =
    open_marker_delivers text true m ∙ outcome_is [] bytes (Refused (Armor InvalidBeginMarker)) (Refused e) (sym none)
    (ap (λ f. Refused f) (sym named))
fault_delivered text bytes e (inr (inr (m, p))) =
    marker_line_delivers text m.first m.rest true m.size m.whole m.marker ∙ bad_line_delivered false m.rest bytes e p

-- ---- what delivers a refusal has that first fault

garbage_named : (t : List ℕ) (e : Error) → trailing t true ≡ Refused e → e ≡ Armor TrailingGarbage
garbage_named [] e p = refused_clean e (sym p)
garbage_named (b ∷ t) e p = elim (cases_Bool (is_space b)) [
  | inl q ↦ garbage_named t e (rw q at p)
  | inr q ↦ refused_same e (Armor TrailingGarbage) (sym (rw q at p))
]

fault_at : (v : LineVerdict) (s : Bool) (raw rest : List ℕ) (next : Outcome) (e : Error) → IsFirstLine (raw ++ rest) raw rest
    → IsLineVerdict s raw v →
    (next.ending ≡ Refused e → HasBadLine (is_short (line_columns raw)) rest next.bytes e) →
    (after_line v next (trailing rest true)).ending ≡ Refused e → HasBadLine s (raw ++ rest) (after_line v next (trailing rest true)).bytes e
fault_at (Refuses f) s raw rest next e line h ih p = record {
  pieces = [];
  held = refl;
  fault = f;
  after = (raw, rest, line, inl h);
  named = refused_same e (Armor f) (sym p);
}
fault_at Ends s raw rest next e line h ih p = record {
  pieces = [];
  held = refl;
  fault = TrailingGarbage;
  after = (raw, rest, line, inr (h, λ spaces. refused_clean e (sym p ∙ spaces_end rest spaces), refl));
  named = garbage_named rest e p;
}
fault_at (Holds b) s raw rest next e line h ih p =
    let found = ih p in
    record {
      pieces = b ∷ found.pieces;
      held = ap (λ y. b ++ y) found.held;
      fault = found.fault;
      after = (raw, rest, line, h, found.after);
      named = found.named;
    }

section_faults : (ls : List (List ℕ)) → AreRaw ls → (s : Bool) (e : Error) → (section s ls true).ending ≡ Refused e
    → HasBadLine s (concat ls) (section s ls true).bytes e
section_faults [] a s e p = record {
  pieces = [];
  held = refl;
  fault = NotWrappedAt64Chars;
  after = ([], [], record { whole = refl; stops = inr (tt, refl) }, inl (subst (IsLineVerdict s []) (empty_verdict s) (one_verdict s [])));
  named = refused_same e (Armor NotWrappedAt64Chars) (sym p);
}
section_faults (raw ∷ more) a s e p =
    let (line, others) = raw_line raw more a in
    fault_at (verdict s raw) s raw (concat more) (section (is_short (line_columns raw)) more true) e line (one_verdict s raw)
    (section_faults more others (is_short (line_columns raw)) e) p

line_faults : (text : List ℕ) (s : Bool) (e : Error) → (section s (raw_lines text) true).ending ≡ Refused e
    → HasBadLine s text (section s (raw_lines text) true).bytes e
line_faults text s e p =
    subst (λ t. HasBadLine s t (section s (raw_lines text) true).bytes e) (concat_raw text) (section_faults (raw_lines text) (are_raw text) s e p)

pub refused_faulty : (text : List ℕ) (e : Error) → (text_delivers text true).ending ≡ Refused e → IsFirstFault text (text_delivers text true).bytes e
refused_faulty text e p = elim (shape_of text) [
  | inl short ↦
      let is = early_delivers text true short in
      inl (short, ap (λ o. o.bytes) is, refused_same e UnexpectedEof (sym p ∙ ap (λ o. o.ending) is))
  | inr (inl plain) ↦ refused_clean e (sym p ∙ ap (λ o. o.ending) (plain_delivers text true plain.size plain.no_marker))
  | inr (inr (inl m)) ↦
      let is = open_marker_delivers text true m in
      inr (inl (m, ap (λ o. o.bytes) is, refused_same e (Armor InvalidBeginMarker) (sym p ∙ ap (λ o. o.ending) is)))
  | inr (inr (inr m)) ↦
      let is = marker_line_delivers text m.first m.rest true m.size m.whole m.marker in
      let found = line_faults m.rest false e (sym (ap (λ o. o.ending) is) ∙ p) in
      inr (inr (m, subst (λ bytes. HasBadLine false m.rest bytes e) (sym (ap (λ o. o.bytes) is)) found))
]

-- ---- a text that ends well never ends by the fault of its reader

trailing_own : (t : List ℕ) → trailing t true ≡ InnerFault → ⊥
trailing_own [] p = let bad : Path Ending Clean InnerFault = p in cc
trailing_own (b ∷ t) p = elim (cases_Bool (is_space b)) [
  | inl q ↦ trailing_own t (rw q at p)
  | inr q ↦ refused_inner (Armor TrailingGarbage) (rw q at p)
]
  where
    refused_inner : (e : Error) → Path Ending (Refused e) InnerFault → ⊥
    refused_inner e p = cc

after_own : (v : LineVerdict) (next : Outcome) (end : Ending) → (next.ending ≡ InnerFault → ⊥) → (end ≡ InnerFault → ⊥)
    → (after_line v next end).ending ≡ InnerFault → ⊥
after_own (Refuses e) next end h k p = let bad : Path Ending (Refused (Armor e)) InnerFault = p in cc
after_own Ends next end h k p = k p
after_own (Holds b) next end h k p = h p

section_own : (ls : List (List ℕ)) (s : Bool) → (section s ls true).ending ≡ InnerFault → ⊥
section_own [] s p = let bad : Path Ending (Refused (Armor NotWrappedAt64Chars)) InnerFault = p in cc
section_own (raw ∷ more) s p =
    after_own (verdict s raw) (section (is_short (line_columns raw)) more true) (trailing (concat more) true)
    (section_own more (is_short (line_columns raw))) (trailing_own (concat more)) p

delivered_own : (text : List ℕ) → (text_delivers text true).ending ≡ InnerFault → ⊥
delivered_own text p = elim (shape_of text) [
  | inl short ↦ let bad : Path Ending (Refused UnexpectedEof) InnerFault = sym (ap (λ o. o.ending) (early_delivers text true short)) ∙ p in cc
  | inr (inl plain) ↦ let bad : Path Ending Clean InnerFault =
      sym (ap (λ o. o.ending) (plain_delivers text true plain.size plain.no_marker)) ∙ p in cc
  | inr (inr (inl m)) ↦ let bad : Path Ending (Refused (Armor InvalidBeginMarker)) InnerFault =
      sym (ap (λ o. o.ending) (open_marker_delivers text true m)) ∙ p in cc
  | inr (inr (inr m)) ↦ section_own (raw_lines m.rest) false
      (sym (ap (λ o. o.ending) (marker_line_delivers text m.first m.rest true m.size m.whole m.marker)) ∙ p)
]

-- ---- either, and not both

ending_cases : (e : Ending) → (e ≡ Clean) ⊎ ((f : Error) × (e ≡ Refused f)) ⊎ (e ≡ InnerFault)
ending_cases Clean = inl refl
ending_cases (Refused f) = inr (inl (f, refl))
ending_cases InnerFault = inr (inr refl)

pub carrying_or_faulty : (text : List ℕ) → AreBytes text
    → ((bytes : List ℕ) × Carries text bytes) ⊎ ((bytes : List ℕ) × (e : Error) × IsFirstFault text bytes e)
carrying_or_faulty text h = elim (ending_cases (text_delivers text true).ending) [
  | inl clean ↦
      let bytes = (text_delivers text true).bytes in
      inl (bytes, delivered_carried text bytes h (outcome_is bytes bytes (text_delivers text true).ending Clean refl clean))
  | inr (inl (e, refused)) ↦ inr ((text_delivers text true).bytes, e, refused_faulty text e refused)
  | inr (inr inner) ↦ absurd (delivered_own text inner)
]

pub not_both : (text bytes others : List ℕ) (e : Error) → Carries text bytes → IsFirstFault text others e → ⊥
not_both text bytes others e c f = refused_clean e (ap (λ o. o.ending) (sym (fault_delivered text others e f) ∙ carried_delivered text bytes c))

pub one_fault : (text bytes others : List ℕ) (e f : Error) → IsFirstFault text bytes e → IsFirstFault text others f → (bytes ≡ others) × (e ≡ f)
one_fault text bytes others e f p q =
    let same = sym (fault_delivered text bytes e p) ∙ fault_delivered text others f q in
    (ap (λ o. o.bytes) same, refused_same e f (ap (λ o. o.ending) same))
