-- A text that carries a list delivers it, and then a clean end.
use Rattle.std.proofs.Common.{◌≡◌, ◌≢◌, ℕ, suc, zero, ◌+◌, ◌^◌, ◌<◌, ◌≤◌, ◌==◌, ◌⊎◌, inl, inr, Bool, true, false, List, [], ◌∷◌, ◌++◌, length, take, drop, refl, ap, sym, subst, arith, ◌∙◌, not, nat_lt, append_assoc}
use Rattle.std.specs.List.{AllByRecursion, list_all}
use Rattle.std.specs.Str.{IsAscii}
use Rattle.std.proofs.lemmas.Bool.{cases_lt, and_parts, ltb-true}
use Rattle.std.proofs.lemmas.List.{append-nil, length-append, take-append-drop, length-take, length-drop, nil_from_length}
use Rattle.std.proofs.lemmas.List.Elements.{All-take, All-drop}
use Rattle.std.proofs.lemmas.Str.{IsUtf8-from_ascii, IsAscii-append}
use Rattle.age_error.specs.Bytes.{AreBytes}
use Rattle.age_base64.specs.Lines.{Lacks}
use Rattle.age_base64.specs.Base64.{padded_columns}
use Rattle.age_base64.proofs.Lines.{lacks_tested}
use Rattle.age_base64.proofs.PaddedColumns.{IsAscii-padded_columns, Lacks_padded_columns, Lacks_hyphen, length-padded_columns}
use Rattle.age_v1.specs.Armor.{armor_lines, begin_marker, end_marker, IsEndedLine, AreEndedLines, IsArmorEnd, IsSpace, CarriesArmored, CarriesBinary, Carries}
use Rattle.age_v1.specs.ArmorLineVerdict.{Ends, Holds, verdict, IsFirst, IsClear, line_columns, is_short}
use Rattle.age_v1.specs.DeliveredArmor.{Clean, Outcome, ends_in, outcome_after, raw_lines, is_space, trailing, section, text_delivers}
use Rattle.age_v1.proofs.Carrying.{up_to_feed, lacks_feed}
use Rattle.age_v1.proofs.ArmorLineVerdicts.{verdict_is}
use Rattle.age_v1.proofs.DeliveredArmors.{concat_raw}
use Rattle.age_v1.proofs.RawLines.{raw_lines_ended, raw_lines_last, columns_of_ended, columns_none, lines_nil, lines_one, lines_more, full_not_short}
use Rattle.age_v1.proofs.ArmorShapes.{plain_delivers, marker_line_delivers}

-- ---- good lines

ascii_tested : (xs : List ℕ) → list_all (λ b. nat_lt b 128) xs ≡ true → IsAscii xs
ascii_tested [] h i = omega arith
ascii_tested (x ∷ xs) h zero = ltb-true x 128 (and_parts _ _ h).0
ascii_tested (x ∷ xs) h (suc i) = ascii_tested xs (and_parts _ _ h).1 i

ended_ascii : (l raw : List ℕ) → IsAscii l → IsEndedLine l raw → IsAscii raw
ended_ascii l raw h (inl e) = subst IsAscii (sym e) (IsAscii-append l (10 ∷ []) h (ascii_tested (10 ∷ []) refl))
ended_ascii l raw h (inr e) = subst IsAscii (sym e) (IsAscii-append l (13 ∷ 10 ∷ []) h (ascii_tested (13 ∷ 10 ∷ []) refl))

end_lacks : (c : ℕ) → list_all (λ d. not (d == c)) end_marker ≡ true → Lacks c end_marker
end_lacks c h = lacks_tested c end_marker h

hyphen_first : (l : List ℕ) → Lacks 45 l → l ≢ end_marker
hyphen_first l h e = (subst (Lacks 45) e h).0 refl

-- an ended line of base64 after no short line
pub good_line : (b raw : List ℕ) → AreBytes b → 0 < length b → length b ≤ 48 → IsEndedLine (padded_columns b) raw →
    (verdict false raw ≡ Holds b) × (line_columns raw ≡ padded_columns b)
good_line b raw h some fits e =
    let returns = Lacks_padded_columns 13 (omega arith) b h in
    let cols : line_columns raw ≡ padded_columns b = columns_of_ended (padded_columns b) raw returns e in
    let clear : IsClear raw = (IsUtf8-from_ascii raw (ended_ascii (padded_columns b) raw (IsAscii-padded_columns b) e), rw cols returns) in
    let first : IsFirst false raw = (clear, rw cols (hyphen_first (padded_columns b) (Lacks_hyphen b h)), refl) in
    let len = length-padded_columns b in
    (verdict_is false raw (Holds b) (first, rw cols (omega (arith, len)), rw cols (omega (arith, len)), h, cols), cols)

end_ascii : IsAscii end_marker
end_ascii = ascii_tested end_marker refl

good_end : (s : Bool) (raw : List ℕ) → (raw ≡ end_marker) ⊎ IsEndedLine end_marker raw → verdict s raw ≡ Ends
good_end s raw (inl e) =
    let cols : line_columns raw ≡ end_marker = ap line_columns e ∙ columns_none end_marker (end_lacks 10 refl) in
    verdict_is s raw Ends ((IsUtf8-from_ascii raw (subst IsAscii (sym e) end_ascii), rw cols (end_lacks 13 refl)), cols)
good_end s raw (inr e) =
    let cols : line_columns raw ≡ end_marker = columns_of_ended end_marker raw (end_lacks 13 refl) e in
    verdict_is s raw Ends ((IsUtf8-from_ascii raw (ended_ascii end_marker raw end_ascii e), rw cols (end_lacks 13 refl)), cols)

space_is : (b : ℕ) → IsSpace b → is_space b ≡ true
space_is b (inl e) = rw e refl
space_is b (inr (inl e)) = rw e refl
space_is b (inr (inr (inl e))) = rw e refl
space_is b (inr (inr (inr (inl e)))) = rw e refl
space_is b (inr (inr (inr (inr e)))) = rw e refl

pub spaces_end : (space : List ℕ) → AllByRecursion IsSpace space → trailing space true ≡ Clean
spaces_end [] h = refl
spaces_end (b ∷ space) h = rw (space_is b h.0) (spaces_end space h.1)

-- the first line of a text
split_raw : (l first text : List ℕ) → Lacks 10 l → IsEndedLine l first → raw_lines (first ++ text) ≡ first ∷ raw_lines text
split_raw l first text h e =
    let f = up_to_feed l first e in
    rw f.1 (ap raw_lines (append_assoc f.0 (10 ∷ []) text) ∙ raw_lines_ended f.0 text (lacks_feed l f.0 h f.2))

end_delivers : (s : Bool) (t : List ℕ) → IsArmorEnd t → section s (raw_lines t) true ≡ ends_in Clean
end_delivers s t (inl e) =
    let lines : raw_lines t ≡ end_marker ∷ [] = ap raw_lines e ∙ raw_lines_last 45 (drop 1 end_marker) (end_lacks 10 refl) in
    rw (lines, good_end s end_marker (inl refl)) refl
end_delivers s t (inr (ended, space, e, h, spaces)) =
    let lines : raw_lines t ≡ ended ∷ raw_lines space = ap raw_lines e ∙ split_raw end_marker ended space (end_lacks 10 refl) h in
    rw (lines, good_end s ended (inr h), concat_raw space, spaces_end space spaces) refl

prepend_step : (b rest x : List ℕ) → b ++ rest ≡ x → outcome_after b (record { bytes = rest; ending = Clean }) ≡ record { bytes = x; ending = Clean }
prepend_step b rest x e = ap (λ y. let o : Outcome = record { bytes = y; ending = Clean } in o) e

pub section_delivers : (fuel : ℕ) (x front end : List ℕ) → length x ≤ fuel → AreBytes x → AreEndedLines (armor_lines (padded_columns x)) front
    → IsArmorEnd end →
    section false (raw_lines (front ++ end)) true ≡ record { bytes = x; ending = Clean }
section_delivers zero x front end small h lines is_end =
    let none : x ≡ [] = nil_from_length x (omega arith) in
    let front_none : front ≡ [] = rw (none, lines_nil) at lines in
    rw (none, front_none) (end_delivers false end is_end)
section_delivers (suc fuel) x front end small h lines is_end = elim (cases_lt 48 (length x)) [
  | inl long ↦
      let size : length (take 48 x) ≡ 48 = rw length-take (omega arith) in
      let parts : take 48 x ++ drop 48 x ≡ x = take-append-drop 48 x in
      let front_bytes : AreBytes (take 48 x) = All-take (λ d. d < 2 ^ 8) 48 x h in
      let back_bytes : AreBytes (drop 48 x) = All-drop (λ d. d < 2 ^ 8) 48 x h in
      let more : armor_lines (padded_columns x) ≡ padded_columns (take 48 x) ∷ armor_lines (padded_columns (drop 48 x)) =
      ap (λ y. armor_lines (padded_columns y)) (sym parts) ∙ lines_more (take 48 x) (drop 48 x) size in
      let split = subst (λ ls. AreEndedLines ls front) more lines in
      let ih = section_delivers fuel (drop 48 x) split.1 end (rw length-drop (omega arith)) back_bytes split.4 is_end in
      let good = good_line (take 48 x) split.0 front_bytes (omega (arith, size)) (omega (arith, size)) split.3 in
      let lf = Lacks_padded_columns 10 (omega arith) (take 48 x) front_bytes in
      rw (
        split.2,
        append_assoc split.0 split.1 end,
        split_raw (padded_columns (take 48 x)) split.0
            (split.1 ++ end) lf split.3,
        good.0,
        good.1,
        full_not_short (take 48 x) front_bytes size,
        ih,
      )
      (prepend_step (take 48 x) (drop 48 x) x parts)
  | inr short ↦ elim (cases_lt 0 (length x)) [
    | inl some ↦
        let one : armor_lines (padded_columns x) ≡ padded_columns x ∷ [] = lines_one x some short in
        let split = subst (λ ls. AreEndedLines ls front) one lines in
        let none : split.1 ≡ [] = split.4 in
        let good = good_line x split.0 h some short split.3 in
        let lf = Lacks_padded_columns 10 (omega arith) x h in
        rw (
          split.2,
          none,
          append-nil,
          split_raw (padded_columns x) split.0 end lf split.3,
          good.0,
          end_delivers
              (is_short (line_columns split.0)) end is_end,
        )
        (prepend_step x [] x (append-nil x))
    | inr nothing ↦
        let none : x ≡ [] = nil_from_length x (omega arith) in
        let front_none : front ≡ [] = rw (none, lines_nil) at lines in
        rw (none, front_none) (end_delivers false end is_end)
  ]
]

pub length_end : (t : List ℕ) → IsArmorEnd t → 32 ≤ length t
length_end t (inl e) = omega (arith, ap length e)
length_end t (inr (ended, space, e, inl h, spaces)) = let len = ap length (e ∙ ap (λ y. y ++ space) h) in omega (arith, simp length-append at len)
length_end t (inr (ended, space, e, inr h, spaces)) = let len = ap length (e ∙ ap (λ y. y ++ space) h) in omega (arith, simp length-append at len)

length_marker : (first : List ℕ) → IsEndedLine begin_marker first → 35 ≤ length first
length_marker first (inl e) = omega (arith, ap length e)
length_marker first (inr e) = omega (arith, ap length e)

armored_delivers : (text x : List ℕ) → AreBytes x → CarriesArmored text x → text_delivers text true ≡ record { bytes = x; ending = Clean }
armored_delivers text x h p =
    let (first, rest, parts, marker, lines) = p.lines in
    let whole : text ≡ first ++ (rest ++ p.end) = p.whole ∙ ap (λ y. y ++ p.end) parts ∙ append_assoc first rest p.end in
    let front : length text ≡ length first + length (rest ++ p.end) = ap length whole ∙ length-append first (rest ++ p.end) in
    let size : 36 ≤ length text = omega (arith, front, length-append rest p.end, length_marker first marker, length_end p.end p.ends) in
    marker_line_delivers text first (rest ++ p.end) true size whole marker ∙ section_delivers (length x) x rest p.end (omega arith) h lines p.ends

binary_delivers : (text x : List ℕ) → CarriesBinary text x → text_delivers text true ≡ record { bytes = x; ending = Clean }
binary_delivers text x p = plain_delivers text true p.size p.no_marker ∙ ap (λ y. let o : Outcome = record { bytes = y; ending = Clean } in o) p.same

-- a text that carries x delivers x and a clean end
pub carried_delivered : (text x : List ℕ) → Carries text x → text_delivers text true ≡ record { bytes = x; ending = Clean }
carried_delivered text x p = elim p.way [ inl a ↦ armored_delivers text x p.each a | inr b ↦ binary_delivers text x b ]
