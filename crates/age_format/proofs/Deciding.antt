-- What each byte decides.
use Rattle.std.proofs.Common.{◌≡◌, ◌≢◌, ℕ, suc, zero, ◌<◌, ◌≤◌, ◌⊎◌, inl, inr, List, [], ◌∷◌, ◌++◌, length, refl, ap, sym, arith, append_assoc, subst, ◌∙◌, length-append, Bool}
use Rattle.std.proofs.lemmas.List.{append-nil, append_cancel_left, same_from_push, nil_from_length}
use Rattle.std.specs.Prelude.{codes, slice_index}
use Rattle.age_base64.specs.Lines.{line, Lacks}
use Rattle.age_v1.specs.Stanza.{StanzaValue}
use Rattle.age_v1.specs.HeaderTexts.{magic, IsHeaderText}
use Rattle.age_v1.specs.Header.{version_line}
use Rattle.age_v1.specs.HeaderVerdict.{Verdict, Header, UnknownVersion, Bad, FrontDecides, IsUndecided, IsVerdict}
use Rattle.age_base64.proofs.Lines.{lacks_tested, Lacks-append, split_line}
use Rattle.age_v1.proofs.Words.{Lacks_string}
use Rattle.age_v1.proofs.HeaderVerdicts.{fronts, version_line_lacks, header_ends}

-- a front of the text with one more byte, other than itself, is a front of the text
shorter_front : (t front more : List ℕ) (b : ℕ) → t ++ b ∷ [] ≡ front ++ more → (front ≡ t ++ b ∷ []) ⊎ ((z : List ℕ) × (t ≡ front ++ z))
shorter_front t front more b e = elim (fronts t front (b ∷ []) more e) [
  | inl same ↦ inr ([], same ∙ sym (append-nil front))
  | inr (inl (c, z, longer)) ↦ inr (c ∷ z, longer)
  | inr (inr (c, z, longer)) ↦
      let f : t ++ b ∷ [] ≡ t ++ (c ∷ (z ++ more)) = e ∙ ap (λ x. x ++ more) longer ∙ append_assoc t (c ∷ z) more in
      let g : b ∷ [] ≡ c ∷ (z ++ more) = append_cancel_left t (b ∷ []) (c ∷ (z ++ more)) f in
      let none : length z ≡ 0 = omega (arith, ap length g, length-append z more) in
      let head : c ≡ b = cc in
      inl (longer ∙ ap (λ x. t ++ c ∷ x) (nil_from_length z none) ∙ ap (λ x. t ++ x ∷ []) head)
]

-- what decides at a byte that ends no line
not_line : (t w : List ℕ) (b : ℕ) → b ≢ 10 → t ++ b ∷ [] ≡ line w → ⊥
not_line t w b ne e = ne (same_from_push t w b 10 e).1

-- the text before the last byte is told
same_before : (t before : List ℕ) (b c : ℕ) → t ++ b ∷ [] ≡ before ++ c ∷ [] → (t ≡ before) × (b ≡ c)
same_before t before b c e = same_from_push t before b c e

lacks_at : (c : ℕ) (xs : List ℕ) (i : ℕ) → Lacks c xs → i < length xs → slice_index xs i ≢ c
lacks_at c [] i h lt = absurd (omega arith)
lacks_at c (x ∷ xs) zero h lt = h.0
lacks_at c (x ∷ xs) (suc i) h lt = lacks_at c xs i h.1 (omega arith)

pub magic_lacks : (i : ℕ) → i < length magic → slice_index magic i ≢ 10
magic_lacks i lt = lacks_at 10 magic i (lacks_tested 10 magic refl) lt

module _ (legacy : Bool) where
  pub undecided_more : (t : List ℕ) (b : ℕ) → IsUndecided legacy t → ((v : Verdict) → FrontDecides legacy (t ++ b ∷ []) v → ⊥)
      → IsUndecided legacy (t ++ b ∷ [])
  undecided_more t b before here front more v e h = elim (shorter_front t front more b e) [
    | inl same ↦ here v (subst (λ x. FrontDecides legacy x v) same h)
    | inr (z, part) ↦ before front z v part h
  ]

  -- no front that is shorter than the text with one more byte decides
  pub none_shorter : (t shorter more : List ℕ) (b c : ℕ) (w : Verdict) → IsUndecided legacy t → t ++ b ∷ [] ≡ shorter ++ c ∷ more
      → FrontDecides legacy shorter w → ⊥
  none_shorter t shorter more b c w before e k = elim (shorter_front t shorter (c ∷ more) b e) [
    | inl same ↦
        let g : shorter ++ [] ≡ shorter ++ c ∷ more = append-nil shorter ∙ same ∙ e in
        let bad : [] ≡ c ∷ more = append_cancel_left shorter [] (c ∷ more) g in cc
    | inr (y, part) ↦ before shorter y w part k
  ]

  pub verdict_here : (input t rest : List ℕ) (b : ℕ) (v : Verdict) → input ≡ (t ++ b ∷ []) ++ rest → IsUndecided legacy t
      → FrontDecides legacy (t ++ b ∷ []) v → IsVerdict legacy input (t ++ b ∷ []) v
  verdict_here input t rest b v whole before h = record {
    more = rest;
    whole = whole;
    decides = h;
    shortest = λ shorter c z w e k. none_shorter t shorter z b c w before e k;
  }

  pub quiet_byte : (t : List ℕ) (b : ℕ) → length magic ≤ length t → b ≢ 10 → 32 ≤ b → b ≤ 126 → (v : Verdict)
      → FrontDecides legacy (t ++ b ∷ []) v → ⊥
  quiet_byte t b long ne low high (Header ss m) h = let w = header_ends legacy (t ++ b ∷ []) ss m h in not_line t w.0 b ne w.1
  quiet_byte t b long ne low high UnknownVersion h = not_line t (magic ++ h.version) b ne h.spelled
  quiet_byte t b long ne low high Bad (inl (before, c, e, lt, other)) = let s = same_before t before b c e in absurd (omega (arith, ap length s.0))
  quiet_byte t b long ne low high Bad (inr (inl (before, c, e, ge, feed, inl out))) = let s = same_before t before b c e in
      absurd (omega (arith, s.1))
  quiet_byte t b long ne low high Bad (inr (inl (before, c, e, ge, feed, inr out))) = let s = same_before t before b c e in
      absurd (omega (arith, s.1))
  quiet_byte t b long ne low high Bad (inr (inr bad)) = not_line t bad.finished.0 b ne bad.finished.1

  pub magic_byte : (t : List ℕ) (b : ℕ) → length t < length magic → b ≡ slice_index magic (length t) → (v : Verdict)
      → FrontDecides legacy (t ++ b ∷ []) v → ⊥
  magic_byte t b short is (Header ss m) h = let w = header_ends legacy (t ++ b ∷ []) ss m h in
      not_line t w.0 b (λ e. magic_lacks (length t) short (sym is ∙ e)) w.1
  magic_byte t b short is UnknownVersion h = not_line t (magic ++ h.version) b (λ e. magic_lacks (length t) short (sym is ∙ e)) h.spelled
  magic_byte t b short is Bad (inl (before, c, e, lt, other)) =
      let s = same_before t before b c e in other (sym s.1 ∙ is ∙ ap (λ x. slice_index magic (length x)) s.0)
  magic_byte t b short is Bad (inr (inl (before, c, e, ge, feed, out))) = let s = same_before t before b c e in absurd (omega (arith, ap length s.0))
  magic_byte t b short is Bad (inr (inr bad)) = not_line t bad.finished.0 b (λ e. magic_lacks (length t) short (sym is ∙ e)) bad.finished.1

  pub departs : (t : List ℕ) (b : ℕ) → length t < length magic → b ≢ slice_index magic (length t) → FrontDecides legacy (t ++ b ∷ []) Bad
  departs t b short other = inl (t, b, refl, short, other)

  -- a text from which a header goes on, and which begins with the version's line, decides nothing
  pub hopeful : (t rest more : List ℕ) (ss : List StanzaValue) (m : List ℕ) → t ≡ line version_line ++ rest → (w : List ℕ) → t ≡ line w
      → IsHeaderText legacy (t ++ more) ss m → ((zs : List StanzaValue) (n : List ℕ) → IsHeaderText legacy t zs n → ⊥) → (v : Verdict)
      → FrontDecides legacy t v → ⊥
  hopeful t rest more ss m spelled w ends h none (Header zs n) k = none zs n k
  hopeful t rest more ss m spelled w ends h none UnknownVersion u =
      let f : line version_line ++ rest ≡ line (magic ++ u.version) ++ [] = sym spelled ∙ u.spelled ∙ sym (append-nil (line (magic ++ u.version))) in
      let lacks : Lacks 10 (magic ++ u.version) =
      Lacks-append 10 magic u.version (lacks_tested 10 magic refl) (Lacks_string 10 (omega arith) u.version u.string.1) in
      let same : version_line ≡ magic ++ u.version = (split_line version_line (magic ++ u.version) rest [] version_line_lacks lacks f).0 in
      u.other (sym (append_cancel_left magic (codes "v1") u.version same))
  hopeful t rest more ss m spelled w ends h none Bad (inl (before, b, e, lt, other)) =
      omega (arith, ap length e, length-append before (b ∷ []), ap length spelled, length-append (line version_line) rest)
  hopeful t rest more ss m spelled w ends h none Bad (inr (inl (before, b, e, ge, feed, out))) = feed (same_from_push before w b 10 (sym e ∙ ends)).1
  hopeful t rest more ss m spelled w ends h none Bad (inr (inr bad)) = bad.hopeless more ss m h
