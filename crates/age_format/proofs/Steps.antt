-- What a finished line says to a reader that knows what may come.
use Rattle.std.proofs.Common.{◌≡◌, ℕ, suc, zero, ◌/◌, ◌<◌, ◌⊎◌, inl, inr, List, [], ◌∷◌, ◌++◌, length, refl, ap, sym, arith, append_assoc, subst, ◌∙◌, Bool, true}
use Rattle.std.proofs.lemmas.List.{append-nil, append_cancel_left}
use Rattle.std.specs.List.{AllByRecursion}
use Rattle.std.specs.Prelude.{codes}
use Rattle.age_error.specs.Bytes.{AreBytes, AreBytesOf}
use Rattle.age_base64.specs.Lines.{line, Lacks}
use Rattle.age_base64.specs.Base64.{columns}
use Rattle.age_v1.specs.HeaderTexts.{grown, magic, IsHeaderText, IsBody}
use Rattle.age_v1.specs.Stanza.{StanzaValue, IsStanza, first_line}
use Rattle.age_v1.specs.Header.{mac_line, version_line}
use Rattle.age_v1.specs.HeaderVerdict.{EndsInBadLine}
use Rattle.age_format.specs.Reading.{IsTail, IsBodyAndTail}
use Rattle.age_base64.proofs.Lines.{Lacks-append, lacks_tested, split_line}
use Rattle.age_v1.proofs.Words.{Lacks_string}
use Rattle.age_base64.proofs.Columns.{columns_symbols, IsSymbol}
use Rattle.age_v1.proofs.StanzaBodies.{lacks_feed, front_bytes, back_bytes}
use Rattle.age_v1.proofs.Headers.{stanza_parts, first_line_lacks, mac_line_lacks, same_first, same_value}
use Rattle.age_v1.proofs.HeaderVerdicts.{version_line_lacks}

-- the line of the MAC, and the end
pub record IsLast (l more : List ℕ) (stanzas : List StanzaValue) (mac : List ℕ) : Type 0 where
  pub none : stanzas ≡ []
  pub is_mac : AreBytesOf 32 mac
  pub told : mac_line mac ≡ l
  pub over : more ≡ []

-- the first line of a stanza, and what follows
pub record IsNext (legacy : Bool) (l more : List ℕ) (stanzas : List StanzaValue) (mac : List ℕ) : Type 0 where
  pub here : StanzaValue
  pub others : List StanzaValue
  pub count : ℕ
  pub text : List ℕ
  pub after : List ℕ
  pub list : stanzas ≡ here ∷ others
  pub stanza : IsStanza here
  pub told : first_line here ≡ l
  pub whole : more ≡ text ++ after
  pub lines : IsBody legacy count text here.body
  pub tail : IsTail legacy after others mac

pub regroup : (text l more : List ℕ) → (text ++ line l) ++ more ≡ text ++ (line l ++ more)
regroup text l more = append_assoc text (line l) more

-- the last line of a body
pub record IsFinal (legacy : Bool) (s : StanzaValue) (l more : List ℕ) (done stanzas : List StanzaValue) (mac : List ℕ) : Type 0 where
  pub bytes : List ℕ
  pub others : List StanzaValue
  pub each : AreBytes bytes
  pub small : length bytes < 48
  pub told : columns bytes ≡ l
  pub list : stanzas ≡ done ++ grown s bytes ∷ others
  pub tail : IsTail legacy more others mac

-- a whole line of a body
pub record IsWhole (legacy : Bool) (s : StanzaValue) (l more : List ℕ) (done stanzas : List StanzaValue) (mac : List ℕ) : Type 0 where
  pub piece : List ℕ
  pub each : AreBytes piece
  pub size : length piece ≡ 48
  pub told : columns piece ≡ l
  pub rest : IsBodyAndTail legacy (grown s piece) more done stanzas mac

-- no line of a body at all, in the legacy form
pub record IsOver (legacy : Bool) (s : StanzaValue) (more : List ℕ) (done stanzas : List StanzaValue) (mac : List ℕ) : Type 0 where
  pub allowed : legacy ≡ true
  pub others : List StanzaValue
  pub list : stanzas ≡ done ++ s ∷ others
  pub tail : IsTail legacy more others mac

grown_twice : (s : StanzaValue) (p c : List ℕ) → grown s (p ++ c) ≡ grown (grown s p) c
grown_twice s p c = same_value (grown s (p ++ c)) (grown (grown s p) c) refl refl (sym (append_assoc s.body p c))

grown_none : (s : StanzaValue) (b : List ℕ) → b ≡ [] → grown s b ≡ s
grown_none s b e = same_value (grown s b) s refl refl (ap (λ x. s.body ++ x) e ∙ append-nil s.body)

-- columns don't begin with a hyphen
columns_start : (cols : List ℕ) → AllByRecursion IsSymbol cols → (rest : List ℕ) → cols ≡ 45 ∷ rest → ⊥
columns_start [] h rest e = cc
columns_start (c ∷ cols) h rest e = let same : c ≡ 45 = cc in h.0.2 same

module _ (legacy : Bool) where
  pub tail_line : (l more : List ℕ) (ss : List StanzaValue) (m : List ℕ) → Lacks 10 l → IsTail legacy (line l ++ more) ss m
      → IsLast l more ss m ⊎ IsNext legacy l more ss m
  tail_line l more [] m lacks h =
      let e : line l ++ more ≡ line (mac_line m) ++ [] =
      h.spelled ∙ ap (λ x. x ++ line (mac_line m)) h.texts ∙ sym (append-nil (line (mac_line m))) in
      let r = split_line l (mac_line m) more [] lacks (mac_line_lacks m h.is_mac) e in
      inl (record { none = refl; is_mac = h.is_mac; told = sym r.0; over = r.1 })
  tail_line l more (s ∷ ss) m lacks h =
      let (a, b, parts, here, rest) = h.texts in
      let p = stanza_parts legacy a s here in
      let tail : List ℕ = b ++ line (mac_line m) in
      let e : line l ++ more ≡ line (first_line s) ++ (p.0 ++ tail) =
      h.spelled ∙ ap (λ x. x ++ line (mac_line m)) (parts ∙ ap (λ x. x ++ b) p.1) ∙ simp append_assoc in
      let r = split_line l (first_line s) more (p.0 ++ tail) lacks (first_line_lacks s here.stanza) e in
      inr (record {
        here = s;
        others = ss;
        count = length s.body / 48;
        text = p.0;
        after = tail;
        list = refl;
        stanza = here.stanza;
        told = sym r.0;
        whole = r.1;
        lines = p.2;
        tail = record { middle = b; texts = rest; is_mac = h.is_mac; spelled = refl };
      })

  -- a stanza that was just opened goes on as that stanza
  pub opened : (z : StanzaValue) (l more : List ℕ) (done ss : List StanzaValue) (m : List ℕ) → IsStanza z → z.body ≡ [] → first_line z ≡ l
      → IsNext legacy l more ss m → IsBodyAndTail legacy z more done (done ++ ss) m
  opened z l more done ss m hz empty told h =
      let words = same_first h.here z h.stanza hz (h.told ∙ sym told) in
      let body : h.here.body ≡ z.body ++ h.here.body = ap (λ x. x ++ h.here.body) (sym empty) in
      let same : h.here ≡ grown z h.here.body = same_value h.here (grown z h.here.body) words.0 words.1 body in
      record {
        rest = h.here.body;
        others = h.others;
        count = h.count;
        text = h.text;
        after = h.after;
        lines = h.lines;
        tail = h.tail;
        whole = h.whole;
        stanza = subst IsStanza same h.stanza;
        told = ap (λ x. done ++ x) (h.list ∙ ap (λ x. x ∷ h.others) same);
      }

  -- a line after which no header goes on, past the version's line
  pub bad_line : (text rest l : List ℕ) → text ≡ line version_line ++ rest
      → ((more : List ℕ) (ss : List StanzaValue) (m : List ℕ) → IsHeaderText legacy (text ++ (line l ++ more)) ss m → ⊥)
      → EndsInBadLine legacy (text ++ line l)
  bad_line text rest l e none = record {
    finished = (text ++ l, sym (append_assoc text l (10 ∷ [])));
    hopeless = λ more ss m h. none more ss m (subst (λ x. IsHeaderText legacy x ss m) (regroup text l more) h);
    known = λ u.
        (let f : line version_line ++ (rest ++ line l) ≡ line (magic ++ u.version) ++ [] =
        sym (append_assoc (line version_line) rest (line l)) ∙ ap (λ x. x ++ line l) (sym e) ∙ u.spelled
        ∙ sym (append-nil (line (magic ++ u.version))) in
        let lacks : Lacks 10 (magic ++ u.version) =
        Lacks-append 10 magic u.version (lacks_tested 10 magic refl) (Lacks_string 10 (omega arith) u.version u.string.1) in
        let same : version_line ≡ magic ++ u.version =
        (split_line version_line (magic ++ u.version) (rest ++ line l) [] version_line_lacks lacks f).0 in
        u.other (sym (append_cancel_left magic (codes "v1") u.version same)));
  }

  cases_body : (k : ℕ) (s : StanzaValue) (l more x b after : List ℕ) (done ss others : List StanzaValue) (m : List ℕ) → Lacks 10 l
      → IsBody legacy k x b → IsTail legacy after others m → line l ++ more ≡ x ++ after → IsStanza (grown s b) → ss ≡ done ++ grown s b ∷ others
      → IsFinal legacy s l more done ss m ⊎ IsWhole legacy s l more done ss m ⊎ IsOver legacy s (line l ++ more) done ss m
  cases_body zero s l more x b after done ss others m lacks (small, inl t) tail e hs list =
      let each : AreBytes b = back_bytes s.body b hs.body in
      let r = split_line l (columns b) more after lacks (lacks_feed b each) (e ∙ ap (λ y. y ++ after) t) in
      inl (record {
        bytes = b;
        others = others;
        each = each;
        small = small;
        told = sym r.0;
        list = list;
        tail = subst (λ y. IsTail legacy y others m) (sym r.1) tail;
      })
  cases_body zero s l more x b after done ss others m lacks (small, inr t) tail e hs list =
      inr (inr (record {
        allowed = t.0;
        others = others;
        list = list ∙ ap (λ y. done ++ y ∷ others) (grown_none s b t.1);
        tail = subst (λ y. IsTail legacy y others m) (sym (e ∙ ap (λ y. y ++ after) t.2)) tail;
      }))
  cases_body (suc k) s l more x b after done ss others m lacks (p, c, y, size, parts, text, deep) tail e hs list =
      let each : AreBytes p = front_bytes p c (subst AreBytes parts (back_bytes s.body b hs.body)) in
      let f : line l ++ more ≡ line (columns p) ++ (y ++ after) = e ∙ ap (λ t. t ++ after) text ∙ append_assoc (line (columns p)) y after in
      let r = split_line l (columns p) more (y ++ after) lacks (lacks_feed p each) f in
      let same : grown s b ≡ grown (grown s p) c = ap (grown s) parts ∙ grown_twice s p c in
      inr (inl (record {
        piece = p;
        each = each;
        size = size;
        told = sym r.0;
        rest = record {
          rest = c;
          others = others;
          count = k;
          text = y;
          after = after;
          lines = deep;
          tail = tail;
          whole = r.1;
          stanza = subst IsStanza same hs;
          told = list ∙ ap (λ t. done ++ t ∷ others) same;
        };
      }))

  pub body_cases : (s : StanzaValue) (l more : List ℕ) (done ss : List StanzaValue) (m : List ℕ) → Lacks 10 l
      → IsBodyAndTail legacy s (line l ++ more) done ss m
      → IsFinal legacy s l more done ss m ⊎ IsWhole legacy s l more done ss m ⊎ IsOver legacy s (line l ++ more) done ss m
  body_cases s l more done ss m lacks h = cases_body h.count s l more h.text h.rest h.after done ss h.others m lacks h.lines h.tail h.whole
      h.stanza h.told

  -- a line with a hyphen is no line of a body
  pub hyphen_over : (s : StanzaValue) (l more rest : List ℕ) (done ss : List StanzaValue) (m : List ℕ) → Lacks 10 l → l ≡ 45 ∷ rest
      → IsBodyAndTail legacy s (line l ++ more) done ss m
      → IsOver legacy s (line l ++ more) done ss m
  hyphen_over s l more rest done ss m lacks hyphen h = elim (body_cases s l more done ss m lacks h) [
    | inl final ↦ absurd (columns_start (columns final.bytes) (columns_symbols final.bytes final.each) rest (final.told ∙ hyphen))
    | inr (inl whole) ↦ absurd (columns_start (columns whole.piece) (columns_symbols whole.piece whole.each) rest (whole.told ∙ hyphen))
    | inr (inr over) ↦ over
  ]

  -- and one that is no end of a body is
  pub other_body : (s : StanzaValue) (l more : List ℕ) (done ss : List StanzaValue) (m : List ℕ) → Lacks 10 l
      → (legacy ≡ true → (rest : List ℕ) → l ≡ 45 ∷ rest → ⊥) → IsBodyAndTail legacy s (line l ++ more) done ss m
      → IsFinal legacy s l more done ss m ⊎ IsWhole legacy s l more done ss m
  unfolding first_line mac_line
  other_body s l more done ss m lacks none h = elim (body_cases s l more done ss m lacks h) [
    | inl final ↦ inl final
    | inr (inl whole) ↦ inr whole
    | inr (inr over) ↦ elim (tail_line l more over.others m lacks over.tail) [
      | inl last ↦ absurd (none over.allowed _ (sym last.told))
      | inr next ↦ absurd (none over.allowed _ (sym next.told))
    ]
  ]
