-- A header text is the shortest deciding front of whatever begins with it.
use Rattle.std.proofs.Common.{◌≡◌, ◌≢◌, ℕ, suc, zero, ◌/◌, ◌≤◌, inl, inr, Bool, List, [], ◌∷◌, ◌++◌, length, get_or, refl, ap, sym, arith, append_assoc, subst, ◌∙◌}
use Rattle.std.proofs.Math.Seq.{get_or-append_seam}
use Rattle.std.proofs.lemmas.List.{append_cancel_left, get_or_append_left}
use Rattle.std.specs.Prelude.{codes}
use Rattle.std.specs.List.{AllByRecursion, join_with_byte}
use Rattle.age_error.specs.Bytes.{AreBytes}
use Rattle.age_base64.specs.Lines.{line, Lacks}
use Rattle.age_v1.specs.Stanza.{IsString, IsGraphic, StanzaValue, IsStanza, first_line}
use Rattle.age_base64.specs.Base64.{columns}
use Rattle.age_v1.specs.HeaderTexts.{magic, AreStanzaTexts, IsHeaderText, IsBody}
use Rattle.age_v1.specs.Header.{version_line, mac_line}
use Rattle.age_v1.specs.HeaderVerdict.{Verdict, Header, UnknownVersion, Bad, FrontDecides, IsVerdict}
use Rattle.age_base64.proofs.Lines.{each-append, each_right, split_line, lacks_tested, Lacks-append}
use Rattle.age_v1.proofs.Words.{Lacks_string}
use Rattle.age_v1.proofs.Strings.{graphic_told}
use Rattle.age_base64.proofs.Columns.{IsSymbol, columns_symbols}
use Rattle.age_v1.proofs.StanzaBodies.{front_bytes, back_bytes}
use Rattle.age_v1.proofs.Headers.{stanza_parts, same_header}
use Rattle.age_v1.proofs.HeaderVerdicts.{version_line_lacks}

-- a line feed, or one of 32 to 126
abbrev IsPlain : ℕ → Type 0
IsPlain b = b ≢ 10 → (32 ≤ b) × (b ≤ 126)

abbrev ArePlain : List ℕ → Type 0
ArePlain xs = AllByRecursion IsPlain xs

plain_string : (s : List ℕ) → AllByRecursion IsGraphic s → ArePlain s
plain_string [] h = tt
plain_string (b ∷ s) h = ((λ n. (omega arith, h.0.1)), plain_string s h.1)

plain_words : (ws : List (List ℕ)) → AllByRecursion IsString ws → ArePlain (join_with_byte 32 ws)
plain_words [] h = tt
plain_words (w ∷ []) h = plain_string w h.0.1
plain_words (w ∷ v ∷ ws) h =
    each-append IsPlain w (32 ∷ join_with_byte 32 (v ∷ ws)) (plain_string w h.0.1) ((λ n. (omega arith, omega arith)), plain_words (v ∷ ws) h.1)

plain_symbols : (cols : List ℕ) → AllByRecursion IsSymbol cols → ArePlain cols
plain_symbols [] h = tt
plain_symbols (c ∷ cols) h = ((λ n. (omega arith, omega arith)), plain_symbols cols h.1)

plain_line : (xs : List ℕ) → ArePlain xs → ArePlain (line xs)
plain_line xs h = each-append IsPlain xs (10 ∷ []) h ((λ n. absurd (n refl)), tt)

plain_first : (s : StanzaValue) → IsStanza s → ArePlain (first_line s)
unfolding first_line
plain_first s h = (
  (λ n. (omega arith, omega arith)),
  (
    (λ n. (omega arith, omega arith)),
    ((λ n. (omega arith, omega arith)), plain_words (s.tag ∷ s.args) (h.tag, h.args)),
  ),
)

plain_mac : (m : List ℕ) → AreBytes m → ArePlain (mac_line m)
unfolding mac_line
plain_mac m h = (
  (λ n. (omega arith, omega arith)),
  (
    (λ n. (omega arith, omega arith)),
    ((λ n. (omega arith, omega arith)), ((λ n. (omega arith, omega arith)), plain_symbols (columns m) (columns_symbols m h))),
  ),
)

-- the version's line is made of strings
plain_version : ArePlain version_line
plain_version = plain_string version_line (graphic_told version_line refl)

module _ (legacy : Bool) where
  plain_body : (k : ℕ) (x b : List ℕ) → IsBody legacy k x b → AreBytes b → ArePlain x
  plain_body zero x b (small, inl e) h = subst ArePlain (sym e) (plain_line (columns b) (plain_symbols (columns b) (columns_symbols b h)))
  plain_body zero x b (small, inr e) h = subst ArePlain (sym e.2) tt
  plain_body (suc k) x b (p, c, y, size, parts, text, deep) h =
      let hp = front_bytes p c (subst AreBytes parts h) in
      subst ArePlain (sym text) (each-append IsPlain (line (columns p)) y
      (plain_line (columns p) (plain_symbols (columns p) (columns_symbols p hp)))
      (plain_body k y c deep (back_bytes p c (subst AreBytes parts h))))

  plain_texts : (t : List ℕ) (ss : List StanzaValue) → AreStanzaTexts legacy t ss → ArePlain t
  plain_texts t [] h = subst ArePlain (sym h) tt
  plain_texts t (s ∷ ss) (a, b, parts, here, rest) =
      let p = stanza_parts legacy a s here in
      let first : ArePlain a =
      subst ArePlain (sym p.1) (each-append IsPlain (line (first_line s)) p.0 (plain_line (first_line s) (plain_first s here.stanza))
      (plain_body (length s.body / 48) p.0 s.body p.2 here.stanza.body)) in
      subst ArePlain (sym parts) (each-append IsPlain a b first (plain_texts b ss rest))

  plain_header : (t : List ℕ) (ss : List StanzaValue) (m : List ℕ) → IsHeaderText legacy t ss m → ArePlain t
  plain_header t ss m h =
      subst ArePlain (sym h.spelled)
      (each-append IsPlain (line version_line) (h.middle ++ line (mac_line m)) (plain_line version_line plain_version)
      (each-append IsPlain h.middle (line (mac_line m)) (plain_texts h.middle ss h.texts) (plain_line (mac_line m) (plain_mac m h.is_mac.bytes))))

  -- no shorter front of a header text decides
  front_quiet : (t : List ℕ) (ss : List StanzaValue) (m : List ℕ) → IsHeaderText legacy t ss m
      → (shorter : List ℕ) (b : ℕ) (rest : List ℕ) (w : Verdict) → t ≡ shorter ++ b ∷ rest → FrontDecides legacy shorter w → ⊥
  front_quiet t ss m h shorter b rest (Header zs n) e k =
      let r = same_header legacy shorter (b ∷ rest) zs ss n m k (subst (λ x. IsHeaderText legacy x ss m) e h) in
      let none : b ∷ rest ≡ [] = r.2 in cc
  front_quiet t ss m h shorter b rest UnknownVersion e u =
      let f : line version_line ++ (h.middle ++ line (mac_line m)) ≡ line (magic ++ u.version) ++ b ∷ rest =
      sym h.spelled ∙ e ∙ ap (λ x. x ++ b ∷ rest) u.spelled in
      let lacks : Lacks 10 (magic ++ u.version) =
      Lacks-append 10 magic u.version (lacks_tested 10 magic refl) (Lacks_string 10 (omega arith) u.version u.string.1) in
      let same : version_line ≡ magic ++ u.version =
      (split_line version_line (magic ++ u.version) (h.middle ++ line (mac_line m)) (b ∷ rest) version_line_lacks lacks f).0 in
      u.other (sym (append_cancel_left magic (codes "v1") u.version same))
  front_quiet t ss m h shorter b rest Bad e (inl (before, c, f, lt, other)) =
      let tail : List ℕ = codes "v1" ++ (10 ∷ (h.middle ++ line (mac_line m))) in
      let g : before ++ c ∷ (b ∷ rest) ≡ magic ++ tail =
      sym (append_assoc before (c ∷ []) (b ∷ rest)) ∙ ap (λ x. x ++ b ∷ rest) (sym f) ∙ sym e ∙ h.spelled in
      other (sym (get_or-append_seam before c (b ∷ rest) 0) ∙ ap (λ x. get_or x (length before) 0) g
      ∙ get_or_append_left magic tail 0 (length before) lt)
  front_quiet t ss m h shorter b rest Bad e (inr (inl (before, c, f, ge, feed, out))) =
      let g : t ≡ before ++ c ∷ (b ∷ rest) = e ∙ ap (λ x. x ++ b ∷ rest) f ∙ append_assoc before (c ∷ []) (b ∷ rest) in
      let all : ArePlain (c ∷ (b ∷ rest)) = each_right IsPlain before (c ∷ (b ∷ rest)) (subst ArePlain g (plain_header t ss m h)) in
      let plain = all.0 feed in
      elim out [ inl low ↦ absurd (omega (arith, plain.0)) | inr high ↦ absurd (omega (arith, plain.1)) ]
  front_quiet t ss m h shorter b rest Bad e (inr (inr bad)) = bad.hopeless (b ∷ rest) ss m (subst (λ x. IsHeaderText legacy x ss m) e h)

  pub reads_back : (t more : List ℕ) (ss : List StanzaValue) (m : List ℕ) → IsHeaderText legacy t ss m → IsVerdict legacy (t ++ more) t (Header ss m)
  reads_back t more ss m h = record { more = more; whole = refl; decides = h; shortest = front_quiet t ss m h }
