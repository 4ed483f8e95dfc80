-- The text of a body, line by line.
use Rattle.std.proofs.Common.{◌≡◌, ℕ, suc, zero, ◌/◌, ◌%◌, ◌^◌, ◌<◌, ◌⊎◌, inl, inr, List, [], ◌∷◌, ◌++◌, length, take, drop, refl, ap, sym, arith, append_assoc, subst, ◌∙◌, length-append, length-drop, Bool, true}
use Rattle.std.proofs.lemmas.List.{append-nil, take_at, drop_at, take-append-drop, append_cancel_right, length-take-le, nil_from_length}
use Rattle.std.proofs.lemmas.List.Elements.{All-take, All-drop}
use Rattle.std.specs.List.{AllByRecursion}
use Rattle.age_error.specs.Bytes.{AreBytes}
use Rattle.age_v1.specs.HeaderTexts.{IsBody}
use Rattle.age_base64.specs.Lines.{Lacks, line, pieces_and_rest}
use Rattle.age_base64.specs.Base64.{columns}
use Rattle.age_v1.specs.Stanza.{body_text}
use Rattle.age_base64.proofs.Lines.{split_line}
use Rattle.age_base64.proofs.Columns.{columns-append, length-columns, columns_same, columns_symbols, IsSymbol, Lacks_columns}

-- the text of a body of fewer than 48 bytes is one line
pub body_text_short : (b : List ℕ) → length b < 48 → body_text b ≡ line (columns b)
unfolding body_text pieces_and_rest
body_text_short b small =
    let none : length (columns b) / 64 ≡ 0 = omega (arith, length-columns b) in
    rw none (append-nil (line (columns b)))

-- 48 bytes are a line of their own
pub body_text_long : (p c : List ℕ) → length p ≡ 48 → body_text (p ++ c) ≡ line (columns p) ++ body_text c
unfolding body_text pieces_and_rest
body_text_long p c size =
    let wide : length (columns p) ≡ 64 = omega (arith, length-columns p) in
    let whole : length p % 3 ≡ 0 = omega arith in
    let both : columns (p ++ c) ≡ columns p ++ columns c = columns-append p c whole in
    let count : length (columns p ++ columns c) / 64 ≡ suc (length (columns c) / 64) = omega (arith, length-append (columns p) (columns c)) in
    rw (both, count, take_at (columns p) (columns c) 64 wide, drop_at (columns p) (columns c) 64 wide) refl

-- it ends with a line feed
pub body_text_ends : (k : ℕ) (b : List ℕ) → length b / 48 ≡ k → (z : List ℕ) × (body_text b ≡ line z)
body_text_ends zero b e = (columns b, body_text_short b (omega arith))
body_text_ends (suc k) b e =
    let size : length (take 48 b) ≡ 48 = length-take-le 48 b (omega arith) in
    let rest : length (drop 48 b) / 48 ≡ k = omega (arith, length-drop 48 b) in
    let r = body_text_ends k (drop 48 b) rest in
    let whole : body_text b ≡ line (columns (take 48 b)) ++ body_text (drop 48 b) =
    ap body_text (sym (take-append-drop 48 b)) ∙ body_text_long (take 48 b) (drop 48 b) size in (
      line (columns (take 48 b)) ++ r.0,
      whole ∙ ap (λ t. line (columns (take 48 b)) ++ t) r.1
          ∙ sym (append_assoc (line (columns (take 48 b))) r.0 (10 ∷ [])),
    )

-- the text of a body, canonical or legacy
abbrev pub IsBodyText : Bool → List ℕ → List ℕ → Type 0
IsBodyText legacy text b = (text ≡ body_text b) ⊎ ((legacy ≡ true) × (length (columns b) % 64 ≡ 0) × (line text ≡ body_text b))

-- what follows a stanza begins with a hyphen
abbrev pub Hyphen : List ℕ → Type 0
Hyphen r = (rest : List ℕ) × (r ≡ 45 ∷ rest)

-- a line of columns doesn't
pub no_hyphen : (cols more r : List ℕ) → AllByRecursion IsSymbol cols → Hyphen r → line cols ++ more ≡ r → ⊥
no_hyphen [] more r h (rest, f) e = let bad : 10 ∷ more ≡ 45 ∷ rest = e ∙ f in cc
no_hyphen (c ∷ cols) more r h (rest, f) e =
    let bad : c ∷ (line cols ++ more) ≡ 45 ∷ rest = e ∙ f in
    let same : c ≡ 45 = cc in
    h.0.2 same

pub lacks_feed : (b : List ℕ) → AreBytes b → Lacks 10 (columns b)
lacks_feed b h = Lacks_columns 10 (omega arith) (columns b) (columns_symbols b h)

pub front_bytes : (a b : List ℕ) → AreBytes (a ++ b) → AreBytes a
front_bytes a b h = subst AreBytes (take_at a b (length a) refl) (All-take (λ x. x < 2 ^ 8) (length a) (a ++ b) h)

pub back_bytes : (a b : List ℕ) → AreBytes (a ++ b) → AreBytes b
back_bytes a b h = subst AreBytes (drop_at a b (length a) refl) (All-drop (λ x. x < 2 ^ 8) (length a) (a ++ b) h)

-- a line of 48 bytes is none of fewer
short_long : (b p m n : List ℕ) → length b < 48 → length p ≡ 48 → AreBytes b → AreBytes p → line (columns b) ++ m ≡ line (columns p) ++ n → ⊥
short_long b p m n small size hb hp e =
    let same : columns b ≡ columns p = (split_line (columns b) (columns p) m n (lacks_feed b hb) (lacks_feed p hp) e).0 in
    absurd (omega (arith, ap length same, length-columns b, length-columns p))

module _ (legacy : Bool) where
  pub body_lines : (k : ℕ) (x b : List ℕ) → length b / 48 ≡ k → IsBodyText legacy x b → IsBody legacy k x b
  body_lines zero x b e (inl h) = let small : length b < 48 = omega arith in (small, inl (h ∙ body_text_short b small))
  body_lines zero x b e (inr h) =
      let small : length b < 48 = omega arith in
      let none : length b ≡ 0 = omega (arith, length-columns b, h.1) in
      let nil : b ≡ [] = nil_from_length b none in
      let h1 : line x ≡ line (columns b) = h.2 ∙ body_text_short b small in
      let zero_columns : length (columns b) ≡ 0 = omega (arith, length-columns b) in
      let nc : columns b ≡ [] = nil_from_length (columns b) zero_columns in
      (small, inr (h.0, nil, append_cancel_right x [] (10 ∷ []) (h1 ∙ ap line nc)))
  body_lines (suc k) x b e t =
      let p : List ℕ = take 48 b in
      let c : List ℕ = drop 48 b in
      let size : length p ≡ 48 = length-take-le 48 b (omega arith) in
      let rest : length c / 48 ≡ k = omega (arith, length-drop 48 b) in
      let parts : b ≡ p ++ c = sym (take-append-drop 48 b) in
      let whole : body_text b ≡ line (columns p) ++ body_text c = ap body_text parts ∙ body_text_long p c size in
      elim t [
        | inl h ↦ (p, c, body_text c, size, parts, h ∙ whole, body_lines k (body_text c) c rest (inl refl))
        | inr h ↦
            let ends = body_text_ends k c rest in
            let eq : line x ≡ line (line (columns p) ++ ends.0) =
            h.2 ∙ whole ∙ ap (λ t. line (columns p) ++ t) ends.1 ∙ sym (append_assoc (line (columns p)) ends.0 (10 ∷ [])) in
            let wide : length (columns c) % 64 ≡ 0 = omega (arith, h.1, length-columns b, length-columns c, length-drop 48 b) in (
              p,
              c,
              ends.0,
              size,
              parts,
              append_cancel_right x (line (columns p) ++ ends.0) (10 ∷ []) eq,
              body_lines k ends.0 c rest
                  (inr (h.0, wide, sym ends.1)),
            )
      ]

  pub same_body : (k l : ℕ) (x y b c r s : List ℕ) → IsBody legacy k x b → IsBody legacy l y c → AreBytes b → AreBytes c → Hyphen r → Hyphen s
      → x ++ r ≡ y ++ s → (b ≡ c) × (r ≡ s)
  same_body zero zero x y b c r s (small, inl h) (small', inl h') hb hc nr ns e =
      let f : line (columns b) ++ r ≡ line (columns c) ++ s = ap (λ t. t ++ r) (sym h) ∙ e ∙ ap (λ t. t ++ s) h' in
      let parts = split_line (columns b) (columns c) r s (lacks_feed b hb) (lacks_feed c hc) f in
      (columns_same b c hb hc parts.0, parts.1)
  same_body zero zero x y b c r s (small, inl h) (small', inr h') hb hc nr ns e =
      let f : line (columns b) ++ r ≡ s = ap (λ t. t ++ r) (sym h) ∙ e ∙ ap (λ t. t ++ s) h'.2 in
      absurd (no_hyphen (columns b) r s (columns_symbols b hb) ns f)
  same_body zero zero x y b c r s (small, inr h) (small', inl h') hb hc nr ns e =
      let f : line (columns c) ++ s ≡ r = ap (λ t. t ++ s) (sym h') ∙ sym e ∙ ap (λ t. t ++ r) h.2 in
      absurd (no_hyphen (columns c) s r (columns_symbols c hc) nr f)
  same_body zero zero x y b c r s (small, inr h) (small', inr h') hb hc nr ns e =
      (h.1 ∙ sym h'.1, ap (λ t. t ++ r) (sym h.2) ∙ e ∙ ap (λ t. t ++ s) h'.2)
  same_body zero (suc l) x y b c r s (small, inl h) (q, d, z, size, parts, text, more) hb hc nr ns e =
      let f : line (columns b) ++ r ≡ line (columns q) ++ (z ++ s) =
      ap (λ t. t ++ r) (sym h) ∙ e ∙ ap (λ t. t ++ s) text ∙ append_assoc (line (columns q)) z s in
      absurd (short_long b q r (z ++ s) small size hb (front_bytes q d (subst AreBytes parts hc)) f)
  same_body zero (suc l) x y b c r s (small, inr h) (q, d, z, size, parts, text, more) hb hc nr ns e =
      let f : line (columns q) ++ (z ++ s) ≡ r =
      sym (append_assoc (line (columns q)) z s) ∙ ap (λ t. t ++ s) (sym text) ∙ sym e ∙ ap (λ t. t ++ r) h.2 in
      absurd (no_hyphen (columns q) (z ++ s) r (columns_symbols q (front_bytes q d (subst AreBytes parts hc))) nr f)
  same_body (suc k) zero x y b c r s (p, d, z, size, parts, text, more) (small, inl h) hb hc nr ns e =
      let f : line (columns c) ++ s ≡ line (columns p) ++ (z ++ r) =
      ap (λ t. t ++ s) (sym h) ∙ sym e ∙ ap (λ t. t ++ r) text ∙ append_assoc (line (columns p)) z r in
      absurd (short_long c p s (z ++ r) small size hc (front_bytes p d (subst AreBytes parts hb)) f)
  same_body (suc k) zero x y b c r s (p, d, z, size, parts, text, more) (small, inr h) hb hc nr ns e =
      let f : line (columns p) ++ (z ++ r) ≡ s = sym (append_assoc (line (columns p)) z r) ∙ ap (λ t. t ++ r) (sym text) ∙ e ∙ ap (λ t. t ++ s) h.2 in
      absurd (no_hyphen (columns p) (z ++ r) s (columns_symbols p (front_bytes p d (subst AreBytes parts hb))) ns f)
  same_body (suc k) (suc l) x y b c r s (p, d, z, size, parts, text, more) (q, d', z', size', parts', text', more') hb hc nr ns e =
      let hp = front_bytes p d (subst AreBytes parts hb) in
      let hq = front_bytes q d' (subst AreBytes parts' hc) in
      let f : line (columns p) ++ (z ++ r) ≡ line (columns q) ++ (z' ++ s) =
      sym (append_assoc (line (columns p)) z r) ∙ ap (λ t. t ++ r) (sym text) ∙ e ∙ ap (λ t. t ++ s) text'
      ∙ append_assoc (line (columns q)) z' s in
      let halves = split_line (columns p) (columns q) (z ++ r) (z' ++ s) (lacks_feed p hp) (lacks_feed q hq) f in
      let deep = same_body k l z z' d d' r s more more' (back_bytes p d (subst AreBytes parts hb))
      (back_bytes q d' (subst AreBytes parts' hc)) nr ns halves.1 in
      let pq : p ≡ q = columns_same p q hp hq halves.0 in
      (parts ∙ ap (λ t. t ++ d) pq ∙ ap (λ t. q ++ t) deep.0 ∙ sym parts', deep.1)
