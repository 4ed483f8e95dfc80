-- From each state a header goes on, so an allowed line decides nothing.
use Rattle.std.proofs.Common.{◌≡◌, ◌≢◌, ℕ, zero, ◌<◌, ◌^◌, inl, List, [], ◌∷◌, ◌++◌, length, replicate, refl, ap, sym, arith, append_assoc, subst, ◌∙◌, length-append, Bool}
use Rattle.std.proofs.lemmas.List.{append-nil, length-replicate}
use Rattle.std.proofs.lemmas.List.Elements.{All-nil, All-replicate}
use Rattle.std.specs.List.{flat_map}
use Rattle.age_error.specs.Bytes.{AreBytesOf}
use Rattle.age_base64.specs.Lines.{line}
use Rattle.age_base64.specs.Base64.{columns}
use Rattle.age_v1.specs.Stanza.{StanzaValue, first_line, stanza_text}
use Rattle.age_v1.specs.HeaderTexts.{IsHeaderText, IsBody}
use Rattle.age_v1.specs.Header.{version_line, mac_line, IsHeader, header_text}
use Rattle.age_v1.specs.HeaderVerdict.{Verdict, FrontDecides}
use Rattle.age_format.specs.Reading.{IsTail, IsAt, MakesHeader}
use Rattle.age_format.specs.declared.state.State.{State}
use Rattle.age_format.specs.declared.state.State.TheVariants.{Version, FirstStanza, Body, AfterBody}
use Rattle.age_v1.proofs.Headers.{canonical_header}
use Rattle.age_format.proofs.States.{ends_header, stanza_text_back, texts_push, pushed_some}
use Rattle.age_format.proofs.Deciding.{hopeful}

no_mac : List ℕ
no_mac = replicate 32 0

is_mac : AreBytesOf 32 no_mac
unfolding no_mac
is_mac = record { len = length-replicate {A = ℕ} 32 0; bytes = All-replicate (λ x. x < 2 ^ 8) 32 0 (omega arith) }

some_stanza : StanzaValue
some_stanza = record { tag = 97 ∷ []; args = []; body = [] }

is_header : IsHeader (some_stanza ∷ []) no_mac
unfolding some_stanza
is_header = record {
  each = (record { tag = ((λ e. cc), ((omega arith, omega arith), tt)); args = tt; body = All-nil (λ x. x < 2 ^ 8) }, tt);
  some = λ e. cc;
  is_mac = is_mac;
}

module _ (legacy : Bool) where
  first_hope : (t : List ℕ) → t ≡ line version_line
      → IsHeaderText legacy (t ++ (flat_map stanza_text (some_stanza ∷ []) ++ line (mac_line no_mac))) (some_stanza ∷ []) no_mac
  unfolding header_text
  first_hope t e = subst (λ x. IsHeaderText legacy (x ++ (flat_map stanza_text (some_stanza ∷ []) ++ line (mac_line no_mac)))
      (some_stanza ∷ []) no_mac) (sym e) (canonical_header legacy (some_stanza ∷ []) no_mac is_header)

  tail_some : (ss : List StanzaValue) (m a x : List ℕ) → IsTail legacy a ss m → [] ≡ x ++ a → ⊥
  tail_some ss m a x h e = omega (
    arith,
    ap length e,
    length-append x a,
    ap length h.spelled,
    length-append h.middle
        (line (mac_line m)),
    length-append (mac_line m) (10 ∷ []),
  )

  not_yet : (st : State) (t : List ℕ) → IsAt legacy st t → (st ≢ Version) → (zs : List StanzaValue) (n : List ℕ) → IsHeaderText legacy t zs n → ⊥
  not_yet st t h other zs n k = ends st (h.goes [] zs n (subst (λ x. IsHeaderText legacy x zs n) (sym (append-nil t)) k)) other
    where
      ends : (st : State) → MakesHeader legacy st [] zs n → (st ≢ Version) → ⊥
      ends Version g other = other refl
      ends FirstStanza g other = tail_some zs n [] [] g.1 refl
      ends (Body done s) g other = tail_some g.others n g.after g.text g.tail g.whole
      ends (AfterBody done) g other = tail_some g.0 n [] [] g.2 refl

  pub allowed_quiet : (st : State) (text next : List ℕ) → IsAt legacy st (text ++ line next) → (v : Verdict)
      → FrontDecides legacy (text ++ line next) v → ⊥
  allowed_quiet Version text next h v k = absurd (omega (arith, ap length h.read, length-append text (line next), length-append next (10 ∷ [])))
  allowed_quiet FirstStanza text next h v k =
      hopeful legacy (text ++ line next) [] _ _ _ (h.read ∙ sym (append-nil (line version_line))) (text ++ next)
      (sym (append_assoc text next (10 ∷ [])))
      (first_hope (text ++ line next) h.read) (not_yet FirstStanza (text ++ line next) h (λ e. cc)) v k
  allowed_quiet (AfterBody done) text next h v k =
      let (middle, some, texts, spelled) = h.read in
      hopeful legacy (text ++ line next) middle _ _ _ spelled (text ++ next) (sym (append_assoc text next (10 ∷ [])))
      (ends_header legacy (text ++ line next) (mac_line no_mac) middle no_mac done.items some texts spelled is_mac refl)
      (not_yet (AfterBody done) (text ++ line next) h (λ e. cc)) v k
  allowed_quiet (Body done s) text next h v k =
      let read = h.read in
      let t : List ℕ = text ++ line next in
      let lines = read.grows (line (columns [])) [] zero (omega arith, inl refl) in
      let body : IsBody legacy lines.0 (read.whole ++ line (columns [])) s.body =
      subst (IsBody legacy lines.0 (read.whole ++ line (columns []))) (append-nil s.body) lines.1 in
      let piece : List ℕ = line (first_line s) ++ (read.whole ++ line (columns [])) in
      let texts = texts_push legacy read.middle piece done.items s read.texts
      (stanza_text_back legacy lines.0 (read.whole ++ line (columns [])) s read.stanza body) in
      let spelled : t ++ line (columns []) ≡ line version_line ++ (read.middle ++ piece) =
      ap (λ x. x ++ line (columns [])) read.spelled ∙ simp append_assoc in
      let header = ends_header legacy (t ++ line (columns [])) (mac_line no_mac) (read.middle ++ piece) no_mac (done.items ++ s ∷ [])
      (pushed_some done.items s) texts spelled is_mac refl in
      hopeful legacy t (read.middle ++ (line (first_line s) ++ read.whole)) (line (columns []) ++ line (mac_line no_mac))
      (done.items ++ s ∷ []) no_mac read.spelled (text ++ next) (sym (append_assoc text next (10 ∷ [])))
      (subst (λ x. IsHeaderText legacy x (done.items ++ s ∷ []) no_mac) (append_assoc t (line (columns [])) (line (mac_line no_mac))) header)
      (not_yet (Body done s) t h (λ e. cc)) v k
