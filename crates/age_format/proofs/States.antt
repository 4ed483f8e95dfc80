-- How a line takes a reader from one state to the next.
use Rattle.std.proofs.Common.{◌≡◌, ◌≢◌, ℕ, suc, zero, ◌^◌, ◌<◌, ◌≤◌, inl, inr, List, [], ◌∷◌, ◌++◌, length, refl, ap, sym, arith, append_assoc, subst, ◌∙◌, length-append, Bool, true}
use Rattle.std.proofs.lemmas.List.{append-nil, nil_from_length}
use Rattle.std.proofs.lemmas.List.Elements.{All-append}
use Rattle.std.specs.Prelude.{codes}
use Rattle.age_error.specs.Bytes.{AreBytes, AreBytesOf}
use Rattle.age_base64.specs.Lines.{line, Lacks}
use Rattle.age_v1.specs.Stanza.{IsString, StanzaValue, IsStanza, first_line, stanza_text, body_text}
use Rattle.age_base64.specs.Base64.{columns}
use Rattle.age_v1.specs.HeaderTexts.{IsStanzaText, grown, magic, AreStanzaTexts, IsHeaderText, IsBody}
use Rattle.age_v1.specs.Header.{mac_line, version_line}
use Rattle.age_v1.specs.HeaderVerdict.{EndsInBadLine}
use Rattle.age_format.specs.Reading.{IsTail, IsBodyAndTail, IsInBody, IsAt}
use Rattle.age_format.specs.PrivateReading.{StandsBeforeLine}
use Rattle.age_format.specs.declared.state.State.{State}
use Rattle.age_base64.proofs.Columns.{columns_same, length-columns}
use Rattle.age_v1.proofs.StanzaBodies.{IsBodyText, body_text_short, body_text_long}
use Rattle.age_v1.proofs.Headers.{not_both}
use Rattle.age_base64.proofs.Lines.{Lacks-append, lacks_tested, split_line}
use Rattle.age_v1.proofs.Words.{Lacks_string}
use Rattle.age_v1.proofs.HeaderVerdicts.{version_line_lacks}
use Rattle.age_format.proofs.Steps.{tail_line, opened, bad_line, regroup, hyphen_over, other_body}

-- what a header that goes on from text says of the stanzas after d
abbrev pub GoesAfter : Bool → List ℕ → List StanzaValue → List ℕ → Type 0
GoesAfter legacy text d l = (more : List ℕ) (ss : List StanzaValue) (m : List ℕ) → IsHeaderText legacy (text ++ (line l ++ more)) ss m
    → (others : List StanzaValue) × (ss ≡ d ++ others) × IsTail legacy (line l ++ more) others m

-- a header that goes on from the text makes these of the rest
abbrev pub GoesInBody : Bool → StanzaValue → List ℕ → List StanzaValue → Type 0
GoesInBody legacy z text d = (more : List ℕ) (ss : List StanzaValue) (m : List ℕ) → IsHeaderText legacy (text ++ more) ss m
    → IsBodyAndTail legacy z more d ss m

pub pushed_some : (d : List StanzaValue) (s : StanzaValue) → d ++ s ∷ [] ≢ []
pushed_some [] s e = cc
pushed_some (z ∷ d) s e = cc

-- what the text is once the body of s is over
abbrev pub IsAfterBody : Bool → List ℕ → List StanzaValue → Type 0
IsAfterBody legacy text d = (middle : List ℕ) × (d ≢ []) × AreStanzaTexts legacy middle d × (text ≡ line version_line ++ middle)

grown_stanza : (s : StanzaValue) (b : List ℕ) → IsStanza s → AreBytes b → IsStanza (grown s b)
grown_stanza s b h k = record { tag = h.tag; args = h.args; body = All-append (λ x. x < 2 ^ 8) s.body b h.body k }

same_head : (s : StanzaValue) (b : List ℕ) → first_line (grown s b) ≡ first_line s
unfolding first_line
same_head s b = refl

spelled_more : (text l middle head whole : List ℕ) → text ≡ line version_line ++ (middle ++ (head ++ whole))
    → text ++ line l ≡ line version_line ++ (middle ++ (head ++ (whole ++ line l)))
spelled_more text l middle head whole e = ap (λ x. x ++ line l) e ∙ simp append_assoc

pub too_long : (b l : List ℕ) → AreBytes b → columns b ≡ l → 48 < length b → (c : List ℕ) → AreBytes c → length c ≤ 48 → columns c ≡ l → ⊥
too_long b l hb told long c hc small e =
    let same : c ≡ b = columns_same c b hc hb (e ∙ sym told) in
    omega (arith, ap length same)

module _ (legacy : Bool) where
  -- a stanza's first line opens its body
  pub opens_body : (text l middle : List ℕ) (z : StanzaValue) (d : List StanzaValue) → AreStanzaTexts legacy middle d
      → text ≡ line version_line ++ middle
      → IsStanza z → z.body ≡ [] → first_line z ≡ l → Lacks 10 l → GoesAfter legacy text d l
      → IsInBody legacy z (text ++ line l) d × GoesInBody legacy z (text ++ line l) d
  opens_body text l middle z d texts spelled hz empty told lacks goes = (
    record {
      middle = middle;
      whole = [];
      texts = texts;
      stanza = hz;
      grows = λ x b k h. (k, subst (λ y. IsBody legacy k x (y ++ b)) (sym empty) h);
      spelled = ap (λ x. x ++ line l) spelled ∙ append_assoc (line version_line) middle (line l)
          ∙ ap (λ x. line version_line ++ (middle ++ x)) (ap line (sym told) ∙ sym (append-nil (line (first_line z))));
    },
    λ more ss m h.
        (let (others, list, tail) = goes more ss m (subst (λ x. IsHeaderText legacy x ss m) (regroup text l more) h) in
        elim (tail_line legacy l more others m lacks tail) [
          | inl last ↦ absurd (not_both z m (told ∙ sym last.told))
          | inr next ↦ subst (λ x. IsBodyAndTail legacy z more d x m) (sym list) (opened legacy z l more d others m hz empty told next)
        ]),
  )

  -- a line that is neither a stanza's first nor the MAC's
  pub bad_after : (text l middle : List ℕ) (d : List StanzaValue) → text ≡ line version_line ++ middle → Lacks 10 l → GoesAfter legacy text d l
      → ((s : StanzaValue) → IsStanza s → first_line s ≡ l → ⊥) → ((m : List ℕ) → AreBytesOf 32 m → mac_line m ≡ l → ⊥)
      → EndsInBadLine legacy (text ++ line l)
  bad_after text l middle d spelled lacks goes none no_mac = bad_line legacy text middle l spelled (λ more ss m h.
      (let (others, list, tail) = goes more ss m h in
      elim (tail_line legacy l more others m lacks tail) [
        | inl last ↦ no_mac m last.is_mac last.told
        | inr next ↦ none next.here next.stanza next.told
      ]))

  -- where a stanza must come
  pub bad_first : (text l : List ℕ) → text ≡ line version_line → Lacks 10 l
      → ((more : List ℕ) (ss : List StanzaValue) (m : List ℕ) → IsHeaderText legacy (text ++ (line l ++ more)) ss m
      → (ss ≢ []) × IsTail legacy (line l ++ more) ss m)
      → ((s : StanzaValue) → IsStanza s → first_line s ≡ l → ⊥) → EndsInBadLine legacy (text ++ line l)
  bad_first text l spelled lacks goes none = bad_line legacy text [] l (spelled ∙ sym (append-nil (line version_line))) (λ more ss m h.
      (let (some, tail) = goes more ss m h in
      elim (tail_line legacy l more ss m lacks tail) [
        | inl last ↦ some last.none
        | inr next ↦ none next.here next.stanza next.told
      ]))

  pub ends_header : (text l middle m : List ℕ) (d : List StanzaValue) → d ≢ [] → AreStanzaTexts legacy middle d → text ≡ line version_line ++ middle
      → AreBytesOf 32 m → mac_line m ≡ l → IsHeaderText legacy (text ++ line l) d m
  ends_header text l middle m d some texts spelled mac told = record {
    middle = middle;
    texts = texts;
    some = some;
    is_mac = mac;
    spelled = ap (λ x. x ++ line l) spelled ∙ append_assoc (line version_line) middle (line l)
        ∙ ap (λ x. line version_line ++ (middle ++ line x)) (sym told);
  }

  -- the text of a body, from its lines
  body_text_back : (k : ℕ) (x b : List ℕ) → IsBody legacy k x b → IsBodyText legacy x b
  body_text_back zero x b (small, inl e) = inl (e ∙ sym (body_text_short b small))
  body_text_back zero x b (small, inr e) =
      inr (
        e.0,
        omega (arith, length-columns b, ap length e.1),
        ap line e.2
            ∙ sym (ap body_text e.1 ∙ body_text_short [] (omega arith) ∙ ap line none),
      )
    where
      none : columns [] ≡ []
      none = nil_from_length (columns []) (omega (arith, length-columns []))
  body_text_back (suc k) x b (p, c, y, size, parts, text, deep) = elim (body_text_back k y c deep) [
    | inl e ↦ inl (text ∙ ap (λ t. line (columns p) ++ t) e ∙ sym (ap body_text parts ∙ body_text_long p c size))
    | inr e ↦ inr (
      e.0,
      (omega (arith, e.1, length-columns b, length-columns c, ap length parts, length-append p c)),
      ap line text ∙ append_assoc (line (columns p)) y (10 ∷ []) ∙ ap (λ t. line (columns p) ++ t) e.2
          ∙ sym (ap body_text parts ∙ body_text_long p c size),
    )
  ]

  -- the text of a stanza, from its first line and the lines of its body
  pub stanza_text_back : (k : ℕ) (x : List ℕ) (s : StanzaValue) → IsStanza s → IsBody legacy k x s.body
      → IsStanzaText legacy (line (first_line s) ++ x) s
  unfolding stanza_text
  stanza_text_back k x s hs h = elim (body_text_back k x s.body h) [
    | inl e ↦ record { stanza = hs; spelled = inl (ap (λ t. line (first_line s) ++ t) e) }
    | inr e ↦ record {
      stanza = hs;
      spelled =
          inr (e.0, (e.1, append_assoc (line (first_line s)) x (10 ∷ []) ∙ ap (λ t. line (first_line s) ++ t) e.2));
    }
  ]

  pub texts_push : (middle t : List ℕ) (d : List StanzaValue) (s : StanzaValue) → AreStanzaTexts legacy middle d → IsStanzaText legacy t s
      → AreStanzaTexts legacy (middle ++ t) (d ++ s ∷ [])
  texts_push middle t [] s h k = (t, [], ap (λ x. x ++ t) h ∙ sym (append-nil t), k, refl)
  texts_push middle t (z ∷ d) s (a, b, parts, here, rest) k =
      (a, b ++ t, ap (λ x. x ++ t) parts ∙ append_assoc a b t, here, texts_push b t d s rest k)

  -- the legacy form: a line with a hyphen ends the body
  pub closes_legacy : legacy ≡ true → (text l rest : List ℕ) (s : StanzaValue) (d : List StanzaValue) → IsInBody legacy s text d → l ≡ 45 ∷ rest
      → Lacks 10 l
      → GoesInBody legacy s text d → IsAfterBody legacy text (d ++ s ∷ []) × GoesAfter legacy text (d ++ s ∷ []) l
  closes_legacy allowed text l rest s d read hyphen lacks goes =
      let lines = read.grows [] [] zero (omega arith, inr (allowed, refl, refl)) in
      let body : IsBody legacy lines.0 read.whole s.body =
      subst (λ x. IsBody legacy lines.0 x s.body) (append-nil read.whole)
      (subst (IsBody legacy lines.0 (read.whole ++ [])) (append-nil s.body) lines.1) in
      let t : List ℕ = line (first_line s) ++ read.whole in (
        (
          read.middle ++ t,
          pushed_some d s,
          texts_push read.middle t d s read.texts
              (stanza_text_back lines.0 read.whole s read.stanza body),
          read.spelled,
        ),
        λ more ss m h.
            (let over = hyphen_over legacy s l more rest d ss m lacks hyphen (goes (line l ++ more) ss m h) in
            (over.others, over.list ∙ sym (append_assoc d (s ∷ []) over.others), over.tail)),
      )

  -- a whole line
  pub goes_on_in_body : (text l b : List ℕ) (s : StanzaValue) (d : List StanzaValue) → IsInBody legacy s text d → Lacks 10 l
      → (legacy ≡ true → (rest : List ℕ) → l ≡ 45 ∷ rest → ⊥) → GoesInBody legacy s text d → AreBytes b → columns b ≡ l → length b ≡ 48
      → IsInBody legacy (grown s b) (text ++ line l) d × GoesInBody legacy (grown s b) (text ++ line l) d
  goes_on_in_body text l b s d read lacks none goes each told size = (
    record {
      middle = read.middle;
      whole = read.whole ++ line l;
      texts = read.texts;
      stanza = grown_stanza s b read.stanza each;
      grows = λ x c k h.
          (let r = read.grows (line (columns b) ++ x) (b ++ c) (suc k) (b, c, x, size, refl, refl, h) in
          let e : read.whole ++ (line (columns b) ++ x) ≡ (read.whole ++ line l) ++ x =
          ap (λ t. read.whole ++ (line t ++ x)) told ∙ sym (append_assoc read.whole (line l) x) in (
            r.0,
            subst (λ t. IsBody legacy r.0 t ((s.body ++ b) ++ c)) e
                (subst (IsBody legacy r.0 (read.whole ++ (line (columns b) ++ x))) (sym (append_assoc s.body b c)) r.1),
          ));
      spelled = spelled_more text l read.middle (line (first_line s)) read.whole read.spelled
          ∙ ap (λ t. line version_line ++ (read.middle ++ (line t ++ (read.whole ++ line l)))) (sym (same_head s b));
    },
    λ more ss m h.
        elim (other_body legacy s l more d ss m lacks none
        (goes (line l ++ more) ss m (subst (λ x. IsHeaderText legacy x ss m) (regroup text l more) h))) [
          | inl final ↦
              let same : final.bytes ≡ b = columns_same final.bytes b final.each each (final.told ∙ sym told) in
              absurd (omega (arith, ap length same, final.small))
          | inr whole ↦
              let same : whole.piece ≡ b = columns_same whole.piece b whole.each each (whole.told ∙ sym told) in
              subst (λ x. IsBodyAndTail legacy (grown s x) more d ss m) same whole.rest
        ],
  )

  -- the last line
  pub closes_body : (text l b : List ℕ) (s : StanzaValue) (d : List StanzaValue) → IsInBody legacy s text d → Lacks 10 l
      → (legacy ≡ true → (rest : List ℕ) → l ≡ 45 ∷ rest → ⊥) → GoesInBody legacy s text d → AreBytes b → columns b ≡ l → length b < 48
      → IsAfterBody legacy (text ++ line l) (d ++ grown s b ∷ [])
      × ((more : List ℕ) (ss : List StanzaValue) (m : List ℕ) → IsHeaderText legacy ((text ++ line l) ++ more) ss m
      → (others : List StanzaValue) × (ss ≡ (d ++ grown s b ∷ []) ++ others) × IsTail legacy more others m)
  closes_body text l b s d read lacks none goes each told small =
      let z : StanzaValue = grown s b in
      let lines = read.grows (line (columns b)) b zero (small, inl refl) in
      let body : IsBody legacy lines.0 (read.whole ++ line l) z.body =
      subst (λ t. IsBody legacy lines.0 (read.whole ++ line t) (s.body ++ b)) told lines.1 in
      let hz : IsStanza z = grown_stanza s b read.stanza each in
      let t : List ℕ = line (first_line z) ++ (read.whole ++ line l) in (
        (
          read.middle ++ t,
          pushed_some d z,
          texts_push read.middle t d z read.texts (stanza_text_back lines.0 (read.whole ++ line l) z hz body),
          spelled_more text l read.middle (line (first_line s)) read.whole read.spelled
              ∙ ap (λ t. line version_line ++ (read.middle ++ (line t ++ (read.whole ++ line l)))) (sym (same_head s b)),
        ),
        λ more ss m h.
            elim (other_body legacy s l more d ss m lacks none
            (goes (line l ++ more) ss m (subst (λ x. IsHeaderText legacy x ss m) (regroup text l more) h))) [
              | inl final ↦
                  let same : final.bytes ≡ b = columns_same final.bytes b final.each each (final.told ∙ sym told) in
                  (final.others, final.list ∙ ap (λ x. d ++ grown s x ∷ final.others) same ∙ sym (append_assoc d (z ∷ []) final.others), final.tail)
              | inr whole ↦
                  let same : whole.piece ≡ b = columns_same whole.piece b whole.each each (whole.told ∙ sym told) in
                  absurd (omega (arith, ap length same, whole.size))
            ],
      )

  -- a line that is no columns of at most 48 bytes
  pub bad_body : (text l : List ℕ) (s : StanzaValue) (d : List StanzaValue) → IsInBody legacy s text d → Lacks 10 l
      → (legacy ≡ true → (rest : List ℕ) → l ≡ 45 ∷ rest → ⊥) → GoesInBody legacy s text d
      → ((b : List ℕ) → AreBytes b → length b ≤ 48 → columns b ≡ l → ⊥)
      → EndsInBadLine legacy (text ++ line l)
  bad_body text l s d read lacks none goes bad =
      bad_line legacy text (read.middle ++ (line (first_line s) ++ read.whole)) l read.spelled (λ more ss m h.
      elim (other_body legacy s l more d ss m lacks none (goes (line l ++ more) ss m h)) [
        | inl final ↦ bad final.bytes final.each (omega (arith, final.small)) final.told
        | inr whole ↦ bad whole.piece whole.each (omega (arith, whole.size)) whole.told
      ])

  pub is_before : (state : State) (next text : List ℕ) → IsAt legacy state text → StandsBeforeLine legacy state next text
  is_before state next text h = record { read = h.read; goes = λ more ss m k. h.goes (line next ++ more) ss m k }

  -- the first line, where it is neither the known version's nor another's
  pub bad_version : (text l : List ℕ) → text ≡ [] → Lacks 10 l → (l ≡ version_line → ⊥)
      → ((v : List ℕ) → IsString v → v ≢ codes "v1" → l ≡ magic ++ v → ⊥) → EndsInBadLine legacy (text ++ line l)
  bad_version text l empty lacks known other = subst (λ t. EndsInBadLine legacy (t ++ line l)) (sym empty) (record {
    finished = (l, refl);
    hopeless = λ more ss m h. known (split_line l version_line more (h.middle ++ line (mac_line m)) lacks version_line_lacks h.spelled).0;
    known = λ u.
        (let e : line l ++ [] ≡ line (magic ++ u.version) ++ [] = ap (λ x. x ++ []) u.spelled in
        let lacks' : Lacks 10 (magic ++ u.version) =
        Lacks-append 10 magic u.version (lacks_tested 10 magic refl) (Lacks_string 10 (omega arith) u.version u.string.1) in
        other u.version u.string u.other (split_line l (magic ++ u.version) [] [] lacks lacks' e).0);
  })
