-- The laws of `Appended` and of `Refused`.
use Rattle.std.specs.Prelude.{◌≡◌, ℕ, ◌+◌, ◌*◌, ◌/◌, ◌≤◌, ◌<◌, Bool, true, false, List, [], ◌++◌, length, drop}
use Rattle.std.proofs.Common.{refl, sym, ap, ◌∙◌, inl, inr, arith, append_assoc, length-append, length-drop, subst}
use Rattle.std.proofs.lemmas.Bool.{true≢false}
use Rattle.std.proofs.lemmas.List.{append-nil, drop-append-le, drop-drop}
use Rattle.age_error.specs.declared.io.Error.{Error}
use Rattle.age_error.specs.declared.io.Error.TheVariants.{Device}
use Rattle.age_error.specs.declared.io.ErrorKind.TheVariants.{Interrupted}
use Rattle.age_io.specs.Copying.{AppendsFront}
use Rattle.age_io.specs.CopyingLemmas.{front-later}
use Rattle.age_io.specs.Writing.{Narrows, Retried, HandsOn}
use Rattle.age_io.specs.WritingLemmas.{hands-on-patient}
use Rattle.age_armor.specs.declared.writer.ArmoredWriter.{ArmoredWriter}
use Rattle.age_v1.specs.ArmorFullLines.{full_lines}
use Rattle.age_v1.proofs.FullArmorLines.{full_lines-front, full_lines-both}
use Rattle.age_armor.specs.Writing.{Took, Takes, SendsLines, SendsFront, Appended, WriterRefuses, Refused}

-- the lines of what is left and of what follows
count-both : (t y : List ℕ) → length (t ++ y) / 48 ≡ length t / 48 + length (drop (48 * (length t / 48)) t ++ y) / 48
count-both t y = simp (length-append, length-drop) (omega arith)

module _ {W : Type 0} (inner_appended : W → List ℕ → W → Type 0) where
  pub Took-nothing : (s : ArmoredWriter W) → length s.held.items < 48 → inner_appended s.inner [] s.inner → Took inner_appended s [] s
  unfolding full_lines
  Took-nothing s part nothing =
      let none : length (s.held.items ++ []) / 48 ≡ 0 = rw append-nil (omega (arith, part)) in
      record { held = rw (none, append-nil) refl; sent = rw none nothing }

  pub Took-both : ((a b c : W) (x y : List ℕ) → inner_appended a x b → inner_appended b y c → inner_appended a (x ++ y) c) →
      (a b c : ArmoredWriter W) (x y : List ℕ) → Took inner_appended a x b → Took inner_appended b y c → Took inner_appended a (x ++ y) c
  Took-both both a b c x y first second =
      let t = a.held.items ++ x in
      let m = length t / 48 in
      let n = length (b.held.items ++ y) / 48 in
      let all : a.held.items ++ (x ++ y) ≡ t ++ y = sym (append_assoc a.held.items x y) in
      let held : b.held.items ++ y ≡ drop (48 * m) t ++ y = ap (λ (h : List ℕ). h ++ y) first.held in
      let count : length (t ++ y) / 48 ≡ m + n = count-both t y ∙ ap (λ (h : List ℕ). m + length h / 48) (sym held) in
      let fits : 48 * m ≤ length t = omega arith in
      let rest : drop (48 * m) (t ++ y) ≡ b.held.items ++ y = drop-append-le (48 * m) t y fits ∙ sym held in
      let place : 48 * m + 48 * n ≡ 48 * (length (t ++ y) / 48) = omega (arith, count) in
      let now_held : c.held.items ≡ drop (48 * (length (t ++ y) / 48)) (t ++ y)
      = second.held ∙ ap (λ (h : List ℕ). drop (48 * n) h) (sym rest) ∙ drop-drop (48 * n) (48 * m) (t ++ y)
      ∙ ap (λ (k : ℕ). drop k (t ++ y)) place in
      let out : full_lines (length (t ++ y) / 48) (t ++ y) ≡ full_lines m t ++ full_lines n (b.held.items ++ y)
      = rw (count, full_lines-both m n (t ++ y), full_lines-front m t y fits, rest) refl in
      let now_sent : inner_appended a.inner (full_lines (length (t ++ y) / 48) (t ++ y)) c.inner = rw out (both _ _ _ _ _ first.sent second.sent) in
      record {
        held = subst (λ (z : List ℕ). c.held.items ≡ drop (48 * (length z / 48)) z) (sym all) now_held;
        sent = subst (λ (z : List ℕ). inner_appended a.inner (full_lines (length z / 48) z) c.inner) (sym all) now_sent;
      }

  -- these bytes found room
  pub Took-holding : ((w : W) → inner_appended w [] w) → (a : ArmoredWriter W) (x : List ℕ) (c : ArmoredWriter W)
      → length a.held.items + length x < 48 →
      c.held.items ≡ a.held.items ++ x → c.inner ≡ a.inner → Took inner_appended a x c
  unfolding full_lines
  Took-holding nothing a x c fit held same =
      let none : length (a.held.items ++ x) / 48 ≡ 0 = rw length-append (omega (arith, fit)) in
      record { held = rw none held; sent = rw (none, same) (nothing a.inner) }

  Takes-nothing : ((w : W) → inner_appended w [] w) → (s : ArmoredWriter W) (b : Bool) → Takes inner_appended b s [] s
  Takes-nothing nothing s true = Took-nothing s (omega (arith, s.part, s.held.ok.0)) (nothing s.inner)
  Takes-nothing nothing s false = nothing s.inner

  by_state : (s : ArmoredWriter W) (b : Bool) → s.failed ≡ b → Takes inner_appended s.armored s [] s → Appended inner_appended s [] s
  by_state s true is took = inl (is, refl, refl)
  by_state s false is took = inr (inr (is, is, refl, took))

  -- a state and itself
  pub Appended-nothing : ((w : W) → inner_appended w [] w) → (s : ArmoredWriter W) → Appended inner_appended s [] s
  Appended-nothing nothing s = by_state s s.failed refl (Takes-nothing nothing s s.armored)

  pub Takes-both : ((a b c : W) (x y : List ℕ) → inner_appended a x b → inner_appended b y c → inner_appended a (x ++ y) c) →
      (f : Bool) (a b c : ArmoredWriter W) (x y : List ℕ) → Takes inner_appended f a x b → Takes inner_appended f b y c
      → Takes inner_appended f a (x ++ y) c
  Takes-both both true a b c x y first second = Took-both both a b c x y first second
  Takes-both both false a b c x y first second = both a.inner b.inner c.inner x y first second

  -- a beginning of the lines of what follows, after what was taken
  pub sends-on : ((a b c : W) (x y : List ℕ) → inner_appended a x b → inner_appended b y c → inner_appended a (x ++ y) c) →
      (a b : ArmoredWriter W) (c : W) (x y : List ℕ) → Took inner_appended a x b → SendsLines inner_appended b y c →
      SendsLines inner_appended a (x ++ y) c
  sends-on both a b c x y first second =
      let t = a.held.items ++ x in
      let m = length t / 48 in
      let n = length (b.held.items ++ y) / 48 in
      let held : b.held.items ++ y ≡ drop (48 * m) t ++ y = ap (λ (h : List ℕ). h ++ y) first.held in
      let fits : 48 * m ≤ length t = omega arith in
      let rest : drop (48 * m) (t ++ y) ≡ b.held.items ++ y = drop-append-le (48 * m) t y fits ∙ sym held in
      let count : length (t ++ y) / 48 ≡ m + n
      = omega (arith, ap length rest, length-drop (48 * m) (t ++ y), length-append t y) in
      let out : full_lines (length (t ++ y) / 48) (t ++ y) ≡ full_lines m t ++ full_lines n (b.held.items ++ y)
      = rw (count, full_lines-both m n (t ++ y), full_lines-front m t y fits, rest) refl in
      let front : AppendsFront inner_appended (full_lines (length (t ++ y) / 48) (t ++ y)) a.inner c
      = rw out (front-later inner_appended both _ _ a.inner b.inner c first.sent second) in
      subst (λ (z : List ℕ). AppendsFront inner_appended (full_lines (length z / 48) z) a.inner c) (append_assoc a.held.items x y) front

  -- the same in either form
  pub sends-after : ((a b c : W) (x y : List ℕ) → inner_appended a x b → inner_appended b y c → inner_appended a (x ++ y) c) →
      (f : Bool) (a b : ArmoredWriter W) (c : W) (x y : List ℕ) → Takes inner_appended f a x b → SendsFront inner_appended f b y c →
      SendsFront inner_appended f a (x ++ y) c
  sends-after both true a b c x y first second = sends-on both a b c x y first second
  sends-after both false a b c x y first second = front-later inner_appended both x y a.inner b.inner c first second

  pub Appended-both : ((a b c : W) (x y : List ℕ) → inner_appended a x b → inner_appended b y c → inner_appended a (x ++ y) c) →
      (a b c : ArmoredWriter W) (x y : List ℕ) → Appended inner_appended a x b → Appended inner_appended b y c → Appended inner_appended a (x ++ y) c
  Appended-both both a b c x y (inl stayed) second =
      let same : Appended inner_appended a y c = subst (λ s. Appended inner_appended s y c) stayed.2 second in
      subst (λ (l : List ℕ). Appended inner_appended a (l ++ y) c) (sym stayed.1) same
  Appended-both both a b c x y (inr first) (inl stayed) =
      let same : Appended inner_appended a x c = subst (λ s. Appended inner_appended a x s) (sym stayed.2) (inr first) in
      subst (λ (l : List ℕ). Appended inner_appended a l c) (sym (ap (λ (l : List ℕ). x ++ l) stayed.1 ∙ append-nil x)) same
  Appended-both both a b c x y (inr (inl broke)) (inr (inl later)) = absurd (true≢false (sym broke.failed ∙ later.good))
  Appended-both both a b c x y (inr (inl broke)) (inr (inr second)) = absurd (true≢false (sym broke.failed ∙ second.0))
  Appended-both both a b c x y (inr (inr first)) (inr (inl broke)) =
      let sent : SendsFront inner_appended a.armored b y c.inner = subst (λ f. SendsFront inner_appended f b y c.inner) first.2 broke.sent in
      inr (inl (record {
        good = first.0;
        failed = broke.failed;
        same_form = broke.same_form ∙ first.2;
        sent = sends-after both a.armored a b c.inner x y first.3 sent;
      }))
  Appended-both both a b c x y (inr (inr first)) (inr (inr second)) =
      let second_took : Takes inner_appended a.armored b y c = subst (λ f. Takes inner_appended f b y c) first.2 second.3 in
      let took = Takes-both both a.armored a b c x y first.3 second_took in
      inr (inr (first.0, second.1, second.2 ∙ first.2, took))

  -- a writer whose inner one took nothing
  pub Appended-same : ((w : W) → inner_appended w [] w) → (a b : ArmoredWriter W) → inner_appended a.inner [] b.inner → b.held.items ≡ a.held.items →
      b.armored ≡ a.armored → b.failed ≡ a.failed → a.failed ≡ false → Appended inner_appended a [] b
  unfolding full_lines
  Appended-same nothing a b same held armored failed good = inr (inr (good, failed ∙ good, armored, takes a.armored))
    where
      takes : (f : Bool) → Takes inner_appended f a [] b
      takes true =
          let none : length (a.held.items ++ []) / 48 ≡ 0 = rw append-nil (omega (arith, a.part, a.held.ok.0)) in
          record { held = rw (none, append-nil) held; sent = rw none same }
      takes false = same

module _ {W : Type 0} (refuses : W → ℕ → Error → Type 0) where
  -- what may be refused of fewer bytes may be of more
  pub Refused-more : ((w : W) (m n : ℕ) (e : Error) → m ≤ n → refuses w m e → refuses w n e) →
      (s : ArmoredWriter W) (m n : ℕ) (e : Error) → m ≤ n → Refused refuses s m e → Refused refuses s n e
  Refused-more more s m n e fewer (inl failed) = inl failed
  Refused-more more s m n e fewer (inr may) = inr (may.0, by_form s.armored may.1)
    where
      by_form : (f : Bool) → WriterRefuses refuses f s.inner m e → WriterRefuses refuses f s.inner n e
      by_form true h = h
      by_form false h = more s.inner m n e fewer h

  -- of a writer that goes on
  pub Refused-good : (s : ArmoredWriter W) (f : Bool) (n : ℕ) (e : Error) → s.failed ≡ false → s.armored ≡ f →
      WriterRefuses refuses f s.inner n e → Refused refuses s n e
  Refused-good s f n e good form may = inr (good, subst (λ b. WriterRefuses refuses b s.inner n e) (sym form) may)

  pub Refused-may : (s : ArmoredWriter W) (f : Bool) (n : ℕ) (e : Error) → s.failed ≡ false → s.armored ≡ f → Refused refuses s n e →
      WriterRefuses refuses f s.inner n e
  Refused-may s f n e good form (inl failed) = absurd (true≢false (sym failed.0 ∙ good))
  Refused-may s f n e good form (inr may) = subst (λ b. WriterRefuses refuses b s.inner n e) form may.1

  -- in armor
  pub Refused-armored : (a c : ArmoredWriter W) (n : ℕ) → a.failed ≡ false → c.failed ≡ false → a.armored ≡ true → c.armored ≡ true →
      ((e : Error) → HandsOn refuses c.inner e → HandsOn refuses a.inner e) → Narrows (Refused refuses) a n c
  Refused-armored a c n good good_after form form_after narrows more e h =
      Refused-good a true (n + more) e good form (narrows e (Refused-may c true more e good_after form_after h))

  -- what the inner writer refuses whatever it is given, and what the writer of armor does
  pub handed-back : (s : ArmoredWriter W) (e : Error) → s.failed ≡ false → HandsOn refuses s.inner e → HandsOn (Refused refuses) s e
  handed-back s e good h = by_form s.armored refl
    where
      by_form : (f : Bool) → s.armored ≡ f → HandsOn (Refused refuses) s e
      by_form true form = (0, inl (hands-on-patient refuses s.inner e h, Refused-good s true 0 e good form h))
      by_form false form = elim h.1 [
        | inl plain ↦ (h.0, inl (plain.0, Refused-good s false h.0 e good form plain.1))
        | inr worn ↦ (h.0, inr (worn.0, Refused-good s false h.0 (Device Interrupted) good form worn.1))
      ]

  -- and the other way round, where it may refuse no more than another writer
  pub handed-through : (f : Bool) (first : W) (s : ArmoredWriter W) →
      ((n : ℕ) (e : Error) → Refused refuses s n e → WriterRefuses refuses f first n e) → (e : Error) → HandsOn (Refused refuses) s e
      → HandsOn refuses first e
  handed-through f first s may e h = by_form f (may h.0) h.1
    where
      by_form : (g : Bool) → ((d : Error) → Refused refuses s h.0 d → WriterRefuses refuses g first h.0 d) → Retried (Refused refuses) s h.0 e →
          HandsOn refuses first e
      by_form true from (inl plain) = from e plain.1
      by_form true from (inr worn) = absurd (hands-on-patient refuses first (Device Interrupted) (from (Device Interrupted) worn.1) tt)
      by_form false from (inl plain) = (h.0, inl (plain.0, from e plain.1))
      by_form false from (inr worn) = (h.0, inr (worn.0, from (Device Interrupted) worn.1))
