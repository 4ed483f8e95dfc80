-- What is delivered with a clean end is carried.
use Rattle.std.proofs.Common.{◌≡◌, ℕ, ◌+◌, ◌^◌, ◌<◌, ◌≤◌, ◌==◌, inl, inr, Bool, true, false, List, [], ◌∷◌, ◌++◌, length, refl, ap, sym, subst, arith, ◌∙◌, ◌||◌, append_assoc}
use Rattle.std.specs.List.{AllByRecursion, concat}
use Rattle.std.proofs.lemmas.Bool.{true≢false, cases_Bool, or_cases, eqb-true}
use Rattle.std.proofs.lemmas.List.{append-nil, length-append}
use Rattle.std.proofs.lemmas.List.Elements.{All-nil, All-append}
use Rattle.age_error.specs.Bytes.{AreBytes}
use Rattle.age_error.specs.declared.io.Error.{Error}
use Rattle.age_error.specs.declared.io.Error.TheVariants.{Armor, UnexpectedEof}
use Rattle.age_error.specs.declared.io.ArmoredReadError.TheVariants.{InvalidBeginMarker, NotWrappedAt64Chars}
use Rattle.age_base64.specs.Lines.{line}
use Rattle.age_base64.specs.Base64.{padded_columns}
use Rattle.age_base64.proofs.PaddedColumns.{length-padded_columns}
use Rattle.age_v1.specs.Armor.{armor_lines, end_marker, IsEndedLine, AreEndedLines, IsArmorEnd, IsSpace, Carries}
use Rattle.age_v1.specs.ArmorLineVerdict.{LineVerdict, Refuses, Ends, Holds, verdict, IsLineVerdict, line_columns, is_short}
use Rattle.age_v1.specs.DeliveredArmor.{Ending, Clean, Refused, Outcome, raw_lines, is_space, trailing, after_line, section, text_delivers}
use Rattle.age_v1.proofs.ArmorLineVerdicts.{one_verdict}
use Rattle.age_v1.proofs.DeliveredArmors.{concat_raw}
use Rattle.age_v1.proofs.RawLines.{AreRaw, are_raw, raw_line, columns_none, ended_back, lines_nil, lines_one, lines_more, not_short_full}
use Rattle.age_v1.specs.ArmorFirstFault.{IsFirstLine, HasMarkerLine}
use Rattle.age_v1.proofs.CarriedDelivered.{length_end}
use Rattle.age_v1.proofs.ArmorShapes.{shape_of, early_delivers, plain_delivers, open_marker_delivers, marker_line_delivers}

-- the lines carry x, after a short line or not
record LinesCarry (s : Bool) (text x : List ℕ) : Type 0 where
  front : List ℕ
  end : List ℕ
  whole : text ≡ front ++ end
  lines : AreEndedLines (armor_lines (padded_columns x)) front
  ends : IsArmorEnd end
  each : AreBytes x
  none : s ≡ true → x ≡ []

pub refused_clean : {X : Type 0} (e : Error) → Path Ending (Refused e) Clean → X
refused_clean e p = cc p

pub is_space_back : (b : ℕ) → is_space b ≡ true → IsSpace b
is_space_back b e = elim (or_cases (b == 32 || b == 9 || b == 10 || b == 12) (b == 13) e) [
  | inr p ↦ inr (inr (inr (inr (eqb-true b 13 p))))
  | inl e ↦ elim (or_cases (b == 32 || b == 9 || b == 10) (b == 12) e) [
    | inr p ↦ inr (inr (inr (inl (eqb-true b 12 p))))
    | inl e ↦ elim (or_cases (b == 32 || b == 9) (b == 10) e) [
      | inr p ↦ inr (inr (inl (eqb-true b 10 p)))
      | inl e ↦ elim (or_cases (b == 32) (b == 9) e) [
        | inl p ↦ inl (eqb-true b 32 p)
        | inr p ↦ inr (inl (eqb-true b 9 p))
      ]
    ]
  ]
]

spaces_back : (space : List ℕ) → trailing space true ≡ Clean → AllByRecursion IsSpace space
spaces_back [] e = tt
spaces_back (b ∷ space) e = elim (cases_Bool (is_space b)) [
  | inl p ↦ (is_space_back b p, spaces_back space (rw p at e))
  | inr p ↦ refused_clean _ (rw p at e)
]

ended_line : (raw k : List ℕ) → raw ≡ k ++ 10 ∷ [] → IsEndedLine (line_columns raw) raw
ended_line raw k e = subst (λ r. IsEndedLine (line_columns r) r) (sym e) (ended_back k)

-- a good line before lines that carry x
good_back : (s : Bool) (b raw x text : List ℕ) → IsLineVerdict s raw (Holds b) → IsEndedLine (line_columns raw) raw →
    LinesCarry (is_short (line_columns raw)) text x → LinesCarry s (raw ++ text) (b ++ x)
good_back s b raw x text (first, some, fits, each, same) ended back = record {
  front = raw ++ back.front;
  end = back.end;
  whole = ap (λ y. raw ++ y) back.whole ∙ sym (append_assoc raw back.front back.end);
  lines = subst (λ ls. AreEndedLines ls (raw ++ back.front)) (sym joined)
      (raw, back.front, refl, subst (λ l. IsEndedLine l raw) same ended, back.lines);
  ends = back.ends;
  each = All-append (λ d. d < 2 ^ 8) b x each back.each;
  none = λ e. absurd (true≢false (sym e ∙ first.2));
}
  where
    size : length (padded_columns b) ≤ 64
    size = rw same at fits

    filled : 0 < length (padded_columns b)
    filled = rw same at some

    joined : armor_lines (padded_columns (b ++ x)) ≡ padded_columns b ∷ armor_lines (padded_columns x)
    joined = elim (cases_Bool (is_short (line_columns raw))) [
      | inl e ↦
          let nothing : x ≡ [] = back.none e in
          rw (nothing, append-nil, lines_nil) (lines_one b (omega (arith, length-padded_columns b, filled))
          (omega (arith, length-padded_columns b, size)))
      | inr e ↦ lines_more b x (not_short_full b size (rw same at e))
    ]

-- the end marker's line, and then white space
end_back : (s : Bool) (raw rest : List ℕ) → IsFirstLine (raw ++ rest) raw rest → line_columns raw ≡ end_marker → trailing rest true ≡ Clean
    → IsArmorEnd (raw ++ rest)
end_back s raw rest line marker clean = elim line.stops [
  | inl (k, e, lacks) ↦ inr (raw, rest, refl, subst (λ l. IsEndedLine l raw) marker (ended_line raw k e), spaces_back rest clean)
  | inr (lacks, over) ↦ inl (rw (over, append-nil) (sym (columns_none raw lacks) ∙ marker))
]

no_end : (s : Bool) (text x : List ℕ) → LinesCarry s text x → text ≡ [] → ⊥
no_end s text x back over =
    let all : length text ≡ length back.front + length back.end = ap length back.whole ∙ length-append back.front back.end in
    omega (arith, all, ap length over, length_end back.end back.ends)

clean_at : (v : LineVerdict) (s : Bool) (raw rest : List ℕ) (next : Outcome) → IsFirstLine (raw ++ rest) raw rest → IsLineVerdict s raw v →
    (next.ending ≡ Clean → LinesCarry (is_short (line_columns raw)) rest next.bytes) →
    (after_line v next (trailing rest true)).ending ≡ Clean → LinesCarry s (raw ++ rest) (after_line v next (trailing rest true)).bytes
clean_at (Refuses e) s raw rest next line h ih p = refused_clean (Armor e) p
clean_at Ends s raw rest next line h ih p = record {
  front = [];
  end = raw ++ rest;
  whole = refl;
  lines = rw lines_nil refl;
  ends = end_back s raw rest line h.1 p;
  each = All-nil (λ d. d < 2 ^ 8);
  none = λ e. refl;
}
clean_at (Holds b) s raw rest next line h ih p = elim line.stops [
  | inl (k, e, lacks) ↦ good_back s b raw next.bytes rest h (ended_line raw k e) (ih p)
  | inr (lacks, over) ↦ absurd (no_end (is_short (line_columns raw)) rest next.bytes (ih p) over)
]

section_back : (ls : List (List ℕ)) → AreRaw ls → (s : Bool) → (section s ls true).ending ≡ Clean → LinesCarry s (concat ls) (section s ls true).bytes
section_back [] a s p = refused_clean (Armor NotWrappedAt64Chars) p
section_back (raw ∷ more) a s p =
    let (line, others) = raw_line raw more a in
    clean_at (verdict s raw) s raw (concat more) (section (is_short (line_columns raw)) more true) line (one_verdict s raw)
    (section_back more others (is_short (line_columns raw))) p

lines_back : (x text : List ℕ) → section false (raw_lines text) true ≡ record { bytes = x; ending = Clean } → LinesCarry false text x
lines_back x text p =
    let back = section_back (raw_lines text) (are_raw text) false (ap (λ o. o.ending) p) in
    subst (λ t. LinesCarry false t x) (concat_raw text) (subst (LinesCarry false (concat (raw_lines text))) (ap (λ o. o.bytes) p) back)

marker_back : (text x : List ℕ) → HasMarkerLine text → text_delivers text true ≡ record { bytes = x; ending = Clean } → Carries text x
marker_back text x m p =
    let back = lines_back x m.rest (sym (marker_line_delivers text m.first m.rest true m.size m.whole m.marker) ∙ p) in
    record {
      each = back.each;
      way = inl (record {
        front = m.first ++ back.front;
        end = back.end;
        whole = m.whole ∙ ap (λ y. m.first ++ y) back.whole ∙ sym (append_assoc m.first back.front back.end);
        lines = (m.first, back.front, refl, m.marker, back.lines);
        ends = back.ends;
      });
    }

-- what delivers x with a clean end carries x
pub delivered_carried : (text x : List ℕ) → AreBytes text → text_delivers text true ≡ record { bytes = x; ending = Clean } → Carries text x
delivered_carried text x h p = elim (shape_of text) [
  | inl short ↦ refused_clean UnexpectedEof (ap (λ o. o.ending) (sym (early_delivers text true short) ∙ p))
  | inr (inl plain) ↦
      let same : text ≡ x = ap (λ o. o.bytes) (sym (plain_delivers text true plain.size plain.no_marker) ∙ p) in
      record { each = subst AreBytes same h; way = inr (record { size = plain.size; no_marker = plain.no_marker; same = same }) }
  | inr (inr (inl unended)) ↦ refused_clean (Armor InvalidBeginMarker) (ap (λ o. o.ending) (sym (open_marker_delivers text true unended) ∙ p))
  | inr (inr (inr m)) ↦ marker_back text x m p
]
