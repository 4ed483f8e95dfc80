-- One line more.
use Rattle.std.proofs.Common.{◌∙◌, ℕ, ◌+◌, ◌<◌, List, [], ◌∷◌, ◌++◌, length, length-take-le, map, take, drop, get_or, refl, sym, ap, inl, inr, arith}
use Rattle.std.proofs.lemmas.List.{drop_more, length-map, map-append, take-append-drop}
use Rattle.sazh_core.specs.Recipients.{AreRecipients, IsBadRecipientLine, IsFirstBadRecipient, IsEmptyOrComment, IsRecipient}

-- one that is passed over
pub line_passed : (before : List (List ℕ)) (line : List ℕ) (recipients : List (List ℕ)) → AreRecipients before recipients → IsEmptyOrComment line
    → AreRecipients (before ++ line ∷ []) recipients
line_passed [] line recipients none passed = inl (passed, none)
line_passed (first ∷ before) line recipients (inl over) passed = inl (over.0, line_passed before line recipients over.1 passed)
line_passed (first ∷ before) line recipients (inr found) passed =
    inr (found.0, found.1, found.2, found.3, line_passed before line found.1 found.4 passed)

-- one that is the text of a recipient
pub line_found : (before : List (List ℕ)) (line : List ℕ) (recipients : List (List ℕ)) (public : List ℕ) → AreRecipients before recipients
    → IsRecipient line public → AreRecipients (before ++ line ∷ []) (recipients ++ public ∷ [])
line_found [] line recipients public none is = inr (public, [], ap (λ all. all ++ public ∷ []) none, is, refl)
line_found (first ∷ before) line recipients public (inl over) is = inl (over.0, line_found before line recipients public over.1 is)
line_found (first ∷ before) line recipients public (inr found) is =
    inr (found.0, found.1 ++ public ∷ [], ap (λ all. all ++ public ∷ []) found.2, found.3, line_found before line found.1 public found.4 is)

-- the first bad line of some lines, of which those before it are the first ones
pub first_bad : {A : Type 0} (text_of : A → List ℕ) (all : List A) (i : ℕ) (other : A) (recipients : List (List ℕ)) → i < length all
    → AreRecipients (map text_of (take i all)) recipients → IsBadRecipientLine (text_of (get_or all i other))
    → IsFirstBadRecipient (i + 1) (map text_of all)
first_bad text_of all i other recipients within good bad = record {
  before = map text_of (take i all);
  line = text_of (get_or all i other);
  after = map text_of (drop (i + 1) all);
  parts = ap (map text_of) (sym (take-append-drop i all)) ∙ map-append text_of (take i all) (drop i all)
      ∙ ap (λ rest. map text_of (take i all) ++ map text_of rest) (drop_more all i other within);
  counted = omega (arith, within, length-map (take i all) text_of, length-take-le i all (omega (arith, within)));
  bad = bad;
  recipients = recipients;
  good = good;
}
