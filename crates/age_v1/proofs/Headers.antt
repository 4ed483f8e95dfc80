-- A header text tells its stanzas and its MAC, and begins no other.
use Rattle.std.proofs.Common.{◌≡◌, ℕ, ◌/◌, inl, inr, List, [], ◌∷◌, ◌++◌, length, refl, ap, sym, arith, append_assoc, ◌∙◌, Bool}
use Rattle.std.proofs.lemmas.List.{append-nil, append_cancel_right, append_cancel_left}
use Rattle.std.specs.Prelude.{slice_index}
use Rattle.std.specs.List.{AllByRecursion, flat_map, join_with_byte}
use Rattle.age_error.specs.Bytes.{AreBytesOf}
use Rattle.age_v1.specs.HeaderTexts.{IsBody, IsStanzaText, canonical, AreStanzaTexts, IsHeaderText}
use Rattle.age_base64.specs.Lines.{Lacks, line}
use Rattle.age_base64.specs.Base64.{columns}
use Rattle.age_v1.specs.Stanza.{StanzaValue, body_text, stanza_text, first_line, IsStanza}
use Rattle.age_v1.specs.Header.{mac_line, version_line, IsHeader, header_text}
use Rattle.age_base64.proofs.Lines.{split_line}
use Rattle.age_v1.proofs.Words.{Lacks_words, same_words}
use Rattle.age_base64.proofs.Columns.{columns_same}
use Rattle.age_v1.proofs.StanzaBodies.{Hyphen, body_lines, body_text_ends, same_body, lacks_feed}

pub first_line_lacks : (s : StanzaValue) → IsStanza s → Lacks 10 (first_line s)
unfolding first_line
first_line_lacks s h = (λ e. omega arith, (λ e. omega arith, (λ e. omega arith, Lacks_words 10 (omega arith) (s.tag ∷ s.args) (h.tag, h.args))))

pub mac_line_lacks : (m : List ℕ) → AreBytesOf 32 m → Lacks 10 (mac_line m)
unfolding mac_line
mac_line_lacks m h = (λ e. omega arith, (λ e. omega arith, (λ e. omega arith, (λ e. omega arith, lacks_feed m h.bytes))))

-- a stanza's first line is no line of a MAC
pub not_both : (s : StanzaValue) (m : List ℕ) → first_line s ≡ mac_line m → ⊥
unfolding first_line mac_line
not_both s m e = let second : Path ℕ 62 45 = ap (λ x. slice_index x 1) e in omega arith

pub same_first : (s z : StanzaValue) → IsStanza s → IsStanza z → first_line s ≡ first_line z → (s.tag ≡ z.tag) × (s.args ≡ z.args)
unfolding first_line
same_first s z hs hz e =
    let words : join_with_byte 32 (s.tag ∷ s.args) ≡ join_with_byte 32 (z.tag ∷ z.args) = cc in
    same_words s.tag z.tag s.args z.args (hs.tag, hs.args) (hz.tag, hz.args) words

pub same_mac : (m n : List ℕ) → AreBytesOf 32 m → AreBytesOf 32 n → mac_line m ≡ mac_line n → m ≡ n
unfolding mac_line
same_mac m n hm hn e = let cols : columns m ≡ columns n = cc in columns_same m n hm.bytes hn.bytes cols

abbrev stanza_of : List ℕ → List (List ℕ) → List ℕ → StanzaValue
stanza_of t a b = record { tag = t; args = a; body = b }

pub same_value : (s z : StanzaValue) → s.tag ≡ z.tag → s.args ≡ z.args → s.body ≡ z.body → s ≡ z
same_value s z t a b =
    ap (λ x. stanza_of x s.args s.body) t ∙ ap (λ x. stanza_of z.tag x s.body) a ∙ ap (λ x. stanza_of z.tag z.args x) b

module _ (legacy : Bool) where
  -- a stanza's text is its first line and a text of its body
  pub stanza_parts : (t : List ℕ) (s : StanzaValue) → IsStanzaText legacy t s
      → (x : List ℕ) × (t ≡ line (first_line s) ++ x) × IsBody legacy (length s.body / 48) x s.body
  unfolding stanza_text
  stanza_parts t s h = elim h.spelled [
    | inl e ↦ (body_text s.body, e, body_lines legacy (length s.body / 48) (body_text s.body) s.body refl (inl refl))
    | inr l ↦
        let ends = body_text_ends (length s.body / 48) s.body refl in
        let eq : line t ≡ line (line (first_line s) ++ ends.0) =
        l.1.1 ∙ ap (λ x. line (first_line s) ++ x) ends.1 ∙ sym (append_assoc (line (first_line s)) ends.0 (10 ∷ [])) in (
          ends.0,
          append_cancel_right t (line (first_line s) ++ ends.0) (10 ∷ []) eq,
          body_lines legacy (length s.body / 48) ends.0 s.body refl
              (inr (l.0, l.1.0, sym ends.1)),
        )
  ]

  -- what follows a stanza begins with a hyphen
  pub follows : (t : List ℕ) (ss : List StanzaValue) (m u : List ℕ) → AreStanzaTexts legacy t ss → Hyphen (t ++ (line (mac_line m) ++ u))
  unfolding mac_line first_line
  follows t [] m u h = (_, ap (λ x. x ++ (line (mac_line m) ++ u)) h)
  follows t (s ∷ ss) m u (a, b, parts, here, rest) =
      let p = stanza_parts a s here in
      (_, ap (λ x. x ++ (line (mac_line m) ++ u)) (parts ∙ ap (λ x. x ++ b) p.1))

  pub same_texts : (a b : List ℕ) (ss zs : List StanzaValue) (m n u v : List ℕ) → AreStanzaTexts legacy a ss → AreStanzaTexts legacy b zs
      → AreBytesOf 32 m → AreBytesOf 32 n
      → a ++ (line (mac_line m) ++ u) ≡ b ++ (line (mac_line n) ++ v) → (ss ≡ zs) × (m ≡ n) × (u ≡ v)
  same_texts a b [] [] m n u v ha hb hm hn e =
      let f : line (mac_line m) ++ u ≡ line (mac_line n) ++ v =
      ap (λ x. x ++ (line (mac_line m) ++ u)) (sym ha) ∙ e ∙ ap (λ x. x ++ (line (mac_line n) ++ v)) hb in
      let r = split_line (mac_line m) (mac_line n) u v (mac_line_lacks m hm) (mac_line_lacks n hn) f in
      (refl, same_mac m n hm hn r.0, r.1)
  same_texts a b [] (z ∷ zs) m n u v ha (c, d, parts, here, rest) hm hn e =
      let p = stanza_parts c z here in
      let tail : List ℕ = line (mac_line n) ++ v in
      let g : b ++ tail ≡ line (first_line z) ++ (p.0 ++ (d ++ tail)) = ap (λ x. x ++ tail) (parts ∙ ap (λ x. x ++ d) p.1) ∙ simp append_assoc in
      let f : line (mac_line m) ++ u ≡ line (first_line z) ++ (p.0 ++ (d ++ tail)) = ap (λ x. x ++ (line (mac_line m) ++ u)) (sym ha) ∙ e ∙ g in
      absurd (not_both z m (sym (split_line (mac_line m) (first_line z) u (p.0 ++ (d ++ tail)) (mac_line_lacks m hm)
      (first_line_lacks z here.stanza) f).0))
  same_texts a b (s ∷ ss) [] m n u v (c, d, parts, here, rest) hb hm hn e =
      let p = stanza_parts c s here in
      let tail : List ℕ = line (mac_line m) ++ u in
      let g : a ++ tail ≡ line (first_line s) ++ (p.0 ++ (d ++ tail)) = ap (λ x. x ++ tail) (parts ∙ ap (λ x. x ++ d) p.1) ∙ simp append_assoc in
      let f : line (mac_line n) ++ v ≡ line (first_line s) ++ (p.0 ++ (d ++ tail)) = ap (λ x. x ++ (line (mac_line n) ++ v)) (sym hb) ∙ sym e ∙ g in
      absurd (not_both s n (sym (split_line (mac_line n) (first_line s) v (p.0 ++ (d ++ tail)) (mac_line_lacks n hn)
      (first_line_lacks s here.stanza) f).0))
  same_texts a b (s ∷ ss) (z ∷ zs) m n u v (c, d, parts, here, rest) (c', d', parts', here', rest') hm hn e =
      let p = stanza_parts c s here in
      let q = stanza_parts c' z here' in
      let tail : List ℕ = line (mac_line m) ++ u in
      let tail' : List ℕ = line (mac_line n) ++ v in
      let g : a ++ tail ≡ line (first_line s) ++ (p.0 ++ (d ++ tail)) = ap (λ x. x ++ tail) (parts ∙ ap (λ x. x ++ d) p.1) ∙ simp append_assoc in
      let g' : b ++ tail' ≡ line (first_line z) ++ (q.0 ++ (d' ++ tail')) =
      ap (λ x. x ++ tail') (parts' ∙ ap (λ x. x ++ d') q.1) ∙ simp append_assoc in
      let lines = split_line (first_line s) (first_line z) (p.0 ++ (d ++ tail)) (q.0 ++ (d' ++ tail')) (first_line_lacks s here.stanza)
      (first_line_lacks z here'.stanza) (sym g ∙ e ∙ g') in
      let words = same_first s z here.stanza here'.stanza lines.0 in
      let bodies = same_body legacy (length s.body / 48) (length z.body / 48) p.0 q.0 s.body z.body (d ++ tail)
      (d' ++ tail') p.2 q.2 here.stanza.body here'.stanza.body (follows d ss m u rest) (follows d' zs n v rest') lines.1 in
      let deep = same_texts d d' ss zs m n u v rest rest' hm hn bodies.1 in
      let one : s ≡ z = same_value s z words.0 words.1 bodies.0 in
      (ap (λ x. x ∷ ss) one ∙ ap (λ x. z ∷ x) deep.0, deep.1, deep.2)

  -- A header text tells its stanzas and its MAC, and no other header text goes on from it.
  pub same_header : (t more : List ℕ) (ss zs : List StanzaValue) (m n : List ℕ) → IsHeaderText legacy t ss m → IsHeaderText legacy (t ++ more) zs n
      → (ss ≡ zs) × (m ≡ n) × (more ≡ [])
  same_header t more ss zs m n h k =
      let e : (line version_line ++ (h.middle ++ line (mac_line m))) ++ more ≡ line version_line ++ (k.middle ++ line (mac_line n)) =
      ap (λ x. x ++ more) (sym h.spelled) ∙ k.spelled in
      let f : line version_line ++ (h.middle ++ (line (mac_line m) ++ more)) ≡ line version_line ++ (k.middle ++ (line (mac_line n) ++ [])) =
      ap (λ x. line version_line ++ x) (sym (append_assoc h.middle (line (mac_line m)) more))
      ∙ sym (append_assoc (line version_line) (h.middle ++ line (mac_line m)) more) ∙ e
      ∙ ap (λ x. line version_line ++ (k.middle ++ x)) (sym (append-nil (line (mac_line n)))) in
      let g = append_cancel_left (line version_line) (h.middle ++ (line (mac_line m) ++ more)) (k.middle ++ (line (mac_line n) ++ [])) f in
      same_texts h.middle k.middle ss zs m n more [] h.texts k.texts h.is_mac k.is_mac g

  -- the canonical texts are texts
  canonical_texts : (ss : List StanzaValue) → AllByRecursion IsStanza ss → AreStanzaTexts legacy (flat_map stanza_text ss) ss
  canonical_texts [] h = refl
  canonical_texts (s ∷ ss) h = (stanza_text s, flat_map stanza_text ss, refl, record { stanza = h.0; spelled = inl refl }, canonical_texts ss h.1)

  pub canonical_header : (ss : List StanzaValue) (m : List ℕ) → IsHeader ss m → IsHeaderText legacy (header_text ss m) ss m
  unfolding header_text
  canonical_header ss m h = record {
    middle = flat_map stanza_text ss;
    texts = canonical_texts ss h.each;
    some = h.some;
    is_mac = h.is_mac;
    spelled = refl;
  }

-- without the legacy form they are the only ones
only_texts : (t : List ℕ) (ss : List StanzaValue) → AreStanzaTexts canonical t ss → t ≡ flat_map stanza_text ss
only_texts t [] texts = texts
only_texts t (s ∷ ss) (first, rest, parts, here, more) = elim here.spelled [
  | inl is ↦ parts ∙ ap (λ x. x ++ rest) is ∙ ap (λ x. stanza_text s ++ x) (only_texts rest ss more)
  | inr (legacy, _) ↦ absurd (Prim.cc)
]

pub only_text : (t : List ℕ) (ss : List StanzaValue) (m : List ℕ) → IsHeaderText canonical t ss m → t ≡ header_text ss m
unfolding header_text
only_text t ss m h = h.spelled ∙ ap (λ x. line version_line ++ (x ++ line (mac_line m))) (only_texts h.middle ss h.texts)
