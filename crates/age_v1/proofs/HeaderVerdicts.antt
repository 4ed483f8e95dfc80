-- An input has at most one verdict.
use Rattle.std.proofs.Common.{◌≡◌, ℕ, ◌<◌, ◌⊎◌, inl, inr, List, [], ◌∷◌, ◌++◌, length, refl, ap, sym, arith, append_assoc, subst, ◌∙◌, length-append, Bool}
use Rattle.std.proofs.lemmas.List.{append-nil, append_cancel_left, same_from_push}
use Rattle.std.specs.Prelude.{codes}
use Rattle.age_base64.specs.Lines.{Lacks, line}
use Rattle.age_v1.specs.Stanza.{StanzaValue}
use Rattle.age_v1.specs.HeaderTexts.{magic, IsHeaderText}
use Rattle.age_v1.specs.Header.{version_line, mac_line}
use Rattle.age_v1.specs.HeaderVerdict.{Verdict, Header, UnknownVersion, Bad, IsUnknownVersion, IsBadFront, FrontDecides, IsVerdict}
use Rattle.age_base64.proofs.Lines.{Lacks-append, lacks_tested, split_line}
use Rattle.age_v1.proofs.Words.{Lacks_string}
use Rattle.age_v1.proofs.Headers.{same_header}

-- two fronts of one input
pub fronts : (a b x y : List ℕ) → a ++ x ≡ b ++ y
    → (a ≡ b) ⊎ ((c : ℕ) × (z : List ℕ) × (a ≡ b ++ c ∷ z)) ⊎ ((c : ℕ) × (z : List ℕ) × (b ≡ a ++ c ∷ z))
fronts [] [] x y e = inl refl
fronts [] (d ∷ b) x y e = inr (inr (d, b, refl))
fronts (c ∷ a) [] x y e = inr (inl (c, a, refl))
fronts (c ∷ a) (d ∷ b) x y e =
    let heads : c ≡ d = cc in
    let tails : a ++ x ≡ b ++ y = cc in
    elim (fronts a b x y tails) [
      | inl same ↦ inl (cc)
      | inr (inl (f, z, more)) ↦ inr (inl (f, z, cc))
      | inr (inr (f, z, more)) ↦ inr (inr (f, z, cc))
    ]

pub version_line_lacks : Lacks 10 version_line
version_line_lacks = lacks_tested 10 version_line refl

ends_so : (t before w : List ℕ) (b : ℕ) → t ≡ before ++ b ∷ [] → t ≡ line w → b ≡ 10
ends_so t before w b e f = (same_from_push before w b 10 (sym e ∙ f)).1

module _ (legacy : Bool) where
  pub header_ends : (t : List ℕ) (ss : List StanzaValue) (m : List ℕ) → IsHeaderText legacy t ss m → (w : List ℕ) × (t ≡ line w)
  header_ends t ss m h =
      (line version_line ++ (h.middle ++ mac_line m), h.spelled ∙ simp append_assoc)

  pub header_long : (t : List ℕ) (ss : List StanzaValue) (m : List ℕ) → IsHeaderText legacy t ss m → 20 < length t
  header_long t ss m h = omega (arith, ap length h.spelled, length-append (line version_line) (h.middle ++ line (mac_line m)))

  not_bad_header : (t : List ℕ) (ss : List StanzaValue) (m : List ℕ) → IsHeaderText legacy t ss m → IsBadFront legacy t → ⊥
  not_bad_header t ss m h (inl (before, b, e, lt, ne)) = omega (arith, ap length e, length-append before (b ∷ []), header_long t ss m h)
  not_bad_header t ss m h (inr (inl (before, b, e, ge, ne, out))) = let w = header_ends t ss m h in ne (ends_so t before w.0 b e w.1)
  not_bad_header t ss m h (inr (inr bad)) = bad.hopeless [] ss m (subst (λ x. IsHeaderText legacy x ss m) (sym (append-nil t)) h)

  not_bad_version : (t : List ℕ) → IsUnknownVersion t → IsBadFront legacy t → ⊥
  not_bad_version t h (inl (before, b, e, lt, ne)) =
      omega (
        arith,
        ap length e,
        length-append before (b ∷ []),
        ap length h.spelled,
        length-append (magic ++ h.version)
            (10 ∷ []),
        length-append magic h.version,
      )
  not_bad_version t h (inr (inl (before, b, e, ge, ne, out))) = ne (ends_so t before (magic ++ h.version) b e h.spelled)
  not_bad_version t h (inr (inr bad)) = bad.known h

  not_both : (t : List ℕ) (ss : List StanzaValue) (m : List ℕ) → IsHeaderText legacy t ss m → IsUnknownVersion t → ⊥
  not_both t ss m h u =
      let f : line version_line ++ (h.middle ++ line (mac_line m)) ≡ line (magic ++ u.version) ++ [] =
      sym h.spelled ∙ u.spelled ∙ sym (append-nil (line (magic ++ u.version))) in
      let lacks : Lacks 10 (magic ++ u.version) =
      Lacks-append 10 magic u.version (lacks_tested 10 magic refl) (Lacks_string 10 (omega arith) u.version u.string.1) in
      let same : version_line ≡ magic ++ u.version =
      (split_line version_line (magic ++ u.version) (h.middle ++ line (mac_line m)) [] version_line_lacks lacks f).0 in
      u.other (sym (append_cancel_left magic (codes "v1") u.version same))

  pub same_decision : (t : List ℕ) (v w : Verdict) → FrontDecides legacy t v → FrontDecides legacy t w → v ≡ w
  same_decision t (Header ss m) (Header zs n) h k =
      let r = same_header legacy t [] ss zs m n h (subst (λ x. IsHeaderText legacy x zs n) (sym (append-nil t)) k) in
      ap (λ x. Header x m) r.0 ∙ ap (λ x. Header zs x) r.1
  same_decision t (Header ss m) UnknownVersion h k = absurd (not_both t ss m h k)
  same_decision t (Header ss m) Bad h k = absurd (not_bad_header t ss m h k)
  same_decision t UnknownVersion (Header zs n) h k = absurd (not_both t zs n k h)
  same_decision t UnknownVersion UnknownVersion h k = refl
  same_decision t UnknownVersion Bad h k = absurd (not_bad_version t h k)
  same_decision t Bad (Header zs n) h k = absurd (not_bad_header t zs n k h)
  same_decision t Bad UnknownVersion h k = absurd (not_bad_version t k h)
  same_decision t Bad Bad h k = refl

  pub one_verdict : (input f g : List ℕ) (v w : Verdict) → IsVerdict legacy input f v → IsVerdict legacy input g w → (f ≡ g) × (v ≡ w)
  one_verdict input f g v w h k = elim (fronts f g h.more k.more (sym h.whole ∙ k.whole)) [
    | inl same ↦ (same, same_decision g v w (subst (λ x. FrontDecides legacy x v) same h.decides) k.decides)
    | inr (inl (c, z, longer)) ↦ absurd (h.shortest g c z w longer k.decides)
    | inr (inr (c, z, longer)) ↦ absurd (k.shortest f c z v longer h.decides)
  ]
