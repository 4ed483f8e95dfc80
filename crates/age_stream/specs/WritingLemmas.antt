-- The laws of a `StreamWriter`.
use Rattle.std.specs.Prelude.{◌≡◌, ℕ, zero, suc, ◌+◌, ◌-◌, ◌*◌, ◌^◌, ◌≤◌, ◌<◌, ◌⊎◌, Bool, true, false, List, [], ◌++◌, length, take, drop}
use Rattle.std.proofs.Common.{refl, sym, ap, ◌∙◌, inl, inr, arith, zero-add, add-zero, append_assoc, length-append, length-drop, subst, take_at}
use Rattle.std.proofs.lemmas.Bool.{true≢false, cases_lt}
use Rattle.std.proofs.lemmas.List.{append-nil, drop_at, take_all, take-append-le, drop-append-le, drop-drop}
use Rattle.age_error.specs.Refusals.{IsInterruption}
use Rattle.age_error.specs.declared.io.Error.{Error}
use Rattle.age_error.specs.declared.io.Error.TheVariants.{TooLong}
use Rattle.age_io.specs.Copying.{AppendsFront}
use Rattle.age_io.specs.CopyingLemmas.{front-later}
use Rattle.age_io.specs.Writing.{Narrows}
use Rattle.age_stream.specs.Sending.{RefusesChunk}
use Rattle.age_stream.specs.SendingLemmas.{refuses-chunk-patient}
use Rattle.age_v1.specs.Payload.{Seal, cut, chunk_nonce, piece, last_piece, middle_seals, payload}
use Rattle.age_stream.specs.Writing.{middles, WasMade, Sent, Took, SendsFront, StaysFailed, Appended, Refused, last_seal, taken_len}
use Rattle.age_stream.specs.declared.writer.StreamWriter.{StreamWriter}

module _ (seal_of : Seal) (key : List ℕ) where
  -- the first pieces stay when more bytes follow
  pub middles-front : (m number : ℕ) (t y : List ℕ) → 65536 * m ≤ length t → middles seal_of key number m (t ++ y) ≡ middles seal_of key number m t
  middles-front zero number t y fit = refl
  middles-front (suc m) number t y fit =
      let piece : 65536 ≤ length t = omega arith in
      rw (
        take-append-le 65536 t y piece,
        drop-append-le 65536 t y piece,
        middles-front m (suc number) (drop 65536 t) y (omega (arith, length-drop 65536 t)),
      ) refl

  -- the first pieces, and then those of the rest
  pub middles-both : (m n number : ℕ) (p : List ℕ) → middles seal_of key number (m + n) p
      ≡ middles seal_of key number m p ++ middles seal_of key (number + m) n (drop (65536 * m) p)
  middles-both zero n number p = rw (zero-add n, add-zero number) refl
  middles-both (suc m) n number p =
      let count : suc m + n ≡ suc (m + n) = omega arith in
      let onward : suc number + m ≡ number + suc m = omega arith in
      let place : 65536 + 65536 * m ≡ 65536 * suc m = omega arith in
      let more : middles seal_of key (suc number) (m + n) (drop 65536 p)
      ≡ middles seal_of key (suc number) m (drop 65536 p) ++ middles seal_of key (number + suc m) n (drop (65536 * suc m) p)
      = middles-both m n (suc number) (drop 65536 p) ∙ rw (onward, drop-drop (65536 * m) 65536 p, place) refl in
      rw (count, more, append_assoc) refl

  piece-is : (i : ℕ) (p : List ℕ) → piece i p ≡ take 65536 (drop (65536 * i) p)
  unfolding cut
  piece-is i p = refl

  -- the chunks from the front are those that the payload's definition joins from the end
  pub middles-all : (n : ℕ) (p : List ℕ) → middle_seals seal_of key p n ≡ middles seal_of key 0 n p
  middles-all zero p = refl
  middles-all (suc n) p =
      let count : suc n ≡ n + 1 = omega arith in
      sym (ap (λ k. middles seal_of key 0 k p) count ∙ middles-both n 1 0 p
      ∙ rw (append-nil, zero-add n, ← piece-is n p, ← middles-all n p) refl)

  -- a payload is its middle chunks and then the last one
  pub payload-parts : (p : List ℕ) → payload seal_of key p
      ≡ middles seal_of key 0 (last_piece (length p)) p
      ++ seal_of key (chunk_nonce (last_piece (length p)) true) (drop (65536 * last_piece (length p)) p)
  unfolding payload
  payload-parts p =
      let n = last_piece (length p) in
      let last : piece n p ≡ drop (65536 * n) p = piece-is n p ∙ take_all 65536 (drop (65536 * n) p) (omega (arith, length-drop (65536 * n) p)) in
      rw (middles-all n p, last) refl

module _ {S W : Type 0} (seal_of : Seal) (inner_appended : W → List ℕ → W → Type 0) where
  pub Sent-nothing : ((w : W) → inner_appended w [] w) → (s : StreamWriter S W) → Sent seal_of inner_appended s [] s
  Sent-nothing nothing s = record {
    count = 0;
    fits = omega arith;
    same_key = refl;
    sealed = sym (add-zero s.sealed);
    held = sym (append-nil s.held.items);
    sent = nothing s.inner;
  }

  pub Sent-both : ((a b c : W) (x y : List ℕ) → inner_appended a x b → inner_appended b y c → inner_appended a (x ++ y) c) →
      (a b c : StreamWriter S W) (x y : List ℕ) → Sent seal_of inner_appended a x b → Sent seal_of inner_appended b y c →
      Sent seal_of inner_appended a (x ++ y) c
  Sent-both joins a b c x y first second =
      let t = a.held.items ++ x in
      let m = first.count in
      let n = second.count in
      let all : a.held.items ++ (x ++ y) ≡ t ++ y = sym (append_assoc a.held.items x y) in
      let rest : drop (65536 * m) (t ++ y) ≡ b.held.items ++ y =
      drop-append-le (65536 * m) t y first.fits ∙ ap (λ (h : List ℕ). h ++ y) (sym first.held) in
      let place : 65536 * m + 65536 * n ≡ 65536 * (m + n) = omega arith in
      let out : middles seal_of a.key a.sealed (m + n) (t ++ y)
      ≡ middles seal_of a.key a.sealed m t ++ middles seal_of b.key b.sealed n (b.held.items ++ y)
      = rw (
        middles-both seal_of a.key m n a.sealed
            (t ++ y),
        middles-front seal_of a.key m a.sealed t y first.fits,
        rest,
        first.same_key,
        first.sealed,
      ) refl in
      let now_sent : inner_appended a.inner (middles seal_of a.key a.sealed (m + n) (t ++ y)) c.inner
      = rw out (joins a.inner b.inner c.inner _ _ first.sent second.sent) in
      let now_held : c.held.items ≡ drop (65536 * (m + n)) (t ++ y)
      = second.held ∙ ap (drop (65536 * n)) (sym rest) ∙ drop-drop (65536 * n) (65536 * m) (t ++ y) ∙ ap (λ (k : ℕ). drop k (t ++ y)) place in
      record {
        count = m + n;
        fits = omega (arith, first.fits, second.fits, ap length all, ap length rest, length-drop (65536 * m) (t ++ y), length-append t y);
        same_key = second.same_key ∙ first.same_key;
        sealed = omega (arith, first.sealed, second.sealed);
        held = subst (λ (z : List ℕ). c.held.items ≡ drop (65536 * (m + n)) z) (sym all) now_held;
        sent = subst (λ (z : List ℕ). inner_appended a.inner (middles seal_of a.key a.sealed (m + n) z) c.inner) (sym all) now_sent;
      }

  -- what was sent while bytes still followed was taken
  pub Took-sent : (a c : StreamWriter S W) (x : List ℕ) → Sent seal_of inner_appended a x c → (a.sealed < c.sealed → 0 < length c.held.items)
      → Took seal_of inner_appended a x c
  Took-sent a c x sending followed = record {
    sending = sending;
    followed = λ some. followed (omega (arith, some, sending.sealed));
  }

  pub Took-both : ((a b c : W) (x y : List ℕ) → inner_appended a x b → inner_appended b y c → inner_appended a (x ++ y) c) →
      (a b c : StreamWriter S W) (x y : List ℕ) → Took seal_of inner_appended a x b → Took seal_of inner_appended b y c →
      Took seal_of inner_appended a (x ++ y) c
  Took-both joins a b c x y first second =
      let left : length c.held.items ≡ length b.held.items + length y - 65536 * second.sending.count =
      ap length second.sending.held ∙ length-drop (65536 * second.sending.count) (b.held.items ++ y)
      ∙ ap (λ k. k - 65536 * second.sending.count) (length-append b.held.items y) in
      Took-sent a c (x ++ y) (Sent-both joins a b c x y first.sending second.sending) (λ less. elim (cases_lt 0 second.sending.count) [
        | inl more ↦ second.followed more
        | inr none ↦
            let before : 0 < length b.held.items = first.followed (omega (arith, less, none, first.sending.sealed, second.sending.sealed)) in
            omega (arith, left, none)
      ])

  -- a full piece that is held goes out as a middle chunk, and what it is given is held in its place
  pub Sent-held : (a c : StreamWriter S W) (x : List ℕ) → length a.held.items ≡ 65536 → c.key ≡ a.key → c.held.items ≡ x → c.sealed ≡ a.sealed + 1 →
      inner_appended a.inner (seal_of a.key (chunk_nonce a.sealed false) a.held.items) c.inner → Sent seal_of inner_appended a x c
  Sent-held a c x full key held sealed sent =
      let one : take 65536 (a.held.items ++ x) ≡ a.held.items = take_at a.held.items x 65536 full in
      record {
        count = 1;
        fits = omega (arith, full, length-append a.held.items x);
        same_key = key;
        sealed = sealed;
        held = held ∙ sym (drop_at a.held.items x 65536 full);
        sent = rw (one, append-nil) sent;
      }

  -- a full piece goes out as a middle chunk, where nothing is held
  pub Sent-piece : (a c : StreamWriter S W) (x : List ℕ) → a.held.items ≡ [] → length x ≡ 65536 → c.key ≡ a.key → c.held.items ≡ []
      → c.sealed ≡ a.sealed + 1 →
      inner_appended a.inner (seal_of a.key (chunk_nonce a.sealed false) x) c.inner → Sent seal_of inner_appended a x c
  Sent-piece a c x empty full key held sealed sent =
      let t : a.held.items ++ x ≡ x = ap (λ (h : List ℕ). h ++ x) empty in
      let one : take 65536 x ≡ x = take_all 65536 x (omega (arith, full)) in
      let none : drop 65536 x ≡ [] = ap (drop 65536) (sym (append-nil x)) ∙ drop_at x [] 65536 full in
      record {
        count = 1;
        fits = rw t (omega (arith, full));
        same_key = key;
        sealed = sealed;
        held = held ∙ rw t (sym none);
        sent = rw (t, one, append-nil) sent;
      }

  -- a beginning of what is due is one of what is due when more bytes follow
  pub sends-more : (s : StreamWriter S W) (bytes more : List ℕ) (c : W) → SendsFront seal_of inner_appended s bytes c →
      SendsFront seal_of inner_appended s (bytes ++ more) c
  sends-more s bytes more c sends =
      let t = s.held.items ++ bytes in
      let n = sends.count in
      let all : s.held.items ++ (bytes ++ more) ≡ t ++ more = sym (append_assoc s.held.items bytes more) in
      let fits : 65536 * n ≤ length t = elim (cases_lt 0 n) [ inl some ↦ omega (arith, sends.followed some) | inr none ↦ omega (arith, none) ] in
      let out : AppendsFront inner_appended (middles seal_of s.key s.sealed n (t ++ more)) s.inner c
      = rw (middles-front seal_of s.key n s.sealed t more fits) sends.out in
      record {
        count = n;
        followed = λ some. omega (arith, sends.followed some, ap length all, length-append t more);
        out = subst (λ (z : List ℕ). AppendsFront inner_appended (middles seal_of s.key s.sealed n z) s.inner c) (sym all) out;
      }

  -- a beginning of what follows, after what was sent
  pub sends-later : ((a b c : W) (x y : List ℕ) → inner_appended a x b → inner_appended b y c → inner_appended a (x ++ y) c) →
      (a b : StreamWriter S W) (c : W) (x y : List ℕ) (first : Sent seal_of inner_appended a x b) → SendsFront seal_of inner_appended b y c →
      (0 < first.count → 65536 * first.count < length (a.held.items ++ (x ++ y))) → SendsFront seal_of inner_appended a (x ++ y) c
  sends-later joins a b c x y first second followed =
      let t = a.held.items ++ x in
      let m = first.count in
      let n = second.count in
      let all : a.held.items ++ (x ++ y) ≡ t ++ y = sym (append_assoc a.held.items x y) in
      let rest : drop (65536 * m) (t ++ y) ≡ b.held.items ++ y =
      drop-append-le (65536 * m) t y first.fits ∙ ap (λ (h : List ℕ). h ++ y) (sym first.held) in
      let out : middles seal_of a.key a.sealed (m + n) (t ++ y)
      ≡ middles seal_of a.key a.sealed m t ++ middles seal_of b.key b.sealed n (b.held.items ++ y)
      = rw (
        middles-both seal_of a.key m n a.sealed
            (t ++ y),
        middles-front seal_of a.key m a.sealed t y first.fits,
        rest,
        first.same_key,
        first.sealed,
      ) refl in
      let front : AppendsFront inner_appended (middles seal_of a.key a.sealed (m + n) (t ++ y)) a.inner c
      = rw out (front-later inner_appended joins _ _ a.inner b.inner c first.sent second.out) in
      record {
        count = m + n;
        followed = λ some. elim (cases_lt 0 n) [
          | inl more ↦ omega (arith, second.followed more, ap length all, ap length rest, length-drop (65536 * m) (t ++ y))
          | inr none ↦ omega (arith, followed (omega (arith, some, none)), none)
        ];
        out = subst (λ (z : List ℕ). AppendsFront inner_appended (middles seal_of a.key a.sealed (m + n) z) a.inner c) (sym all) front;
      }

  -- the same after what was taken
  pub sends-after : ((a b c : W) (x y : List ℕ) → inner_appended a x b → inner_appended b y c → inner_appended a (x ++ y) c) →
      (a b : StreamWriter S W) (c : W) (x y : List ℕ) → Took seal_of inner_appended a x b → SendsFront seal_of inner_appended b y c →
      SendsFront seal_of inner_appended a (x ++ y) c
  sends-after joins a b c x y took second =
      let s = took.sending in
      let left : length b.held.items ≡ length (a.held.items ++ x) - 65536 * s.count =
      ap length s.held ∙ length-drop (65536 * s.count) (a.held.items ++ x) in
      let all : a.held.items ++ (x ++ y) ≡ (a.held.items ++ x) ++ y = sym (append_assoc a.held.items x y) in
      sends-later joins a b c x y s second
      (λ some. omega (arith, took.followed some, left, ap length all, length-append (a.held.items ++ x) y))

  Appended-by_state : (s : StreamWriter S W) (b : Bool) → s.failed ≡ b → Took seal_of inner_appended s [] s → Appended seal_of inner_appended s [] s
  Appended-by_state s true is took = inl (record { failed = is; none = refl; same = refl })
  Appended-by_state s false is took = inr (inr (is, is, took))

  -- a state and itself
  pub Appended-nothing : ((w : W) → inner_appended w [] w) → (s : StreamWriter S W) → Appended seal_of inner_appended s [] s
  Appended-nothing nothing s = Appended-by_state s s.failed refl (Took-sent s s [] (Sent-nothing nothing s) (λ less. absurd (omega (arith, less))))

  -- the inner writer was given nothing
  pub Appended-flushed : (a c : StreamWriter S W) → a.failed ≡ false → c.failed ≡ false → c.key ≡ a.key →
      c.held.items ≡ a.held.items → c.sealed ≡ a.sealed → inner_appended a.inner [] c.inner → Appended seal_of inner_appended a [] c
  Appended-flushed a c good good_after key held sealed sent =
      let took = Took-sent a c [] (record {
        count = 0;
        fits = omega arith;
        same_key = key;
        sealed = sealed ∙ sym (add-zero a.sealed);
        held = held ∙ sym (append-nil a.held.items);
        sent = sent;
      }) (λ less. absurd (omega (arith, less, sealed))) in
      inr (inr (good, good_after, took))

  -- what a writer took that is good
  pub Appended-took : (a c : StreamWriter S W) (x : List ℕ) → c.failed ≡ false → Appended seal_of inner_appended a x c
      → Took seal_of inner_appended a x c
  Appended-took a c x good (inl stays) = absurd (true≢false (sym (ap (λ (s : StreamWriter S W). s.failed) stays.same ∙ stays.failed) ∙ good))
  Appended-took a c x good (inr (inl since)) = absurd (true≢false (sym since.failed ∙ good))
  Appended-took a c x good (inr (inr taken)) = taken.2

  -- a failed writer adds nothing to what became of it
  Appended-then_none : (a b c : StreamWriter S W) (x y : List ℕ) → Appended seal_of inner_appended a x b → StaysFailed b y c →
      Appended seal_of inner_appended a (x ++ y) c
  Appended-then_none a b c x y first stays =
      let all : x ++ y ≡ x = ap (λ (l : List ℕ). x ++ l) stays.none ∙ append-nil x in
      let same : Appended seal_of inner_appended a (x ++ y) b = subst (λ (l : List ℕ). Appended seal_of inner_appended a l b) (sym all) first in
      subst (λ (s : StreamWriter S W). Appended seal_of inner_appended a (x ++ y) s) (sym stays.same) same

  pub Appended-both : ((a b c : W) (x y : List ℕ) → inner_appended a x b → inner_appended b y c → inner_appended a (x ++ y) c) →
      (a b c : StreamWriter S W) (x y : List ℕ) → Appended seal_of inner_appended a x b → Appended seal_of inner_appended b y c →
      Appended seal_of inner_appended a (x ++ y) c
  Appended-both joins a b c x y first (inl stays) = Appended-then_none a b c x y first stays
  Appended-both joins a b c x y (inl stays) (inr (inl since)) =
      absurd (true≢false (sym (ap (λ (s : StreamWriter S W). s.failed) stays.same ∙ stays.failed) ∙ since.good))
  Appended-both joins a b c x y (inl stays) (inr (inr second)) =
      absurd (true≢false (sym (ap (λ (s : StreamWriter S W). s.failed) stays.same ∙ stays.failed) ∙ second.0))
  Appended-both joins a b c x y (inr (inl first)) (inr (inl since)) = absurd (true≢false (sym first.failed ∙ since.good))
  Appended-both joins a b c x y (inr (inl first)) (inr (inr second)) = absurd (true≢false (sym first.failed ∙ second.0))
  Appended-both joins a b c x y (inr (inr first)) (inr (inl since)) = inr (inl (record {
    good = first.0;
    failed = since.failed;
    sends = sends-after joins a b c.inner x y first.2 since.sends;
  }))
  Appended-both joins a b c x y (inr (inr first)) (inr (inr second)) = inr (inr (first.0, second.1, Took-both joins a b c x y first.2 second.2))

  -- how many pieces a writer sealed of a plaintext that it took from the first byte on
  count-is : (start writer : StreamWriter S W) (plain : List ℕ) → start.held.items ≡ [] → length writer.held.items ≤ 65536 →
      (took : Took seal_of inner_appended start plain writer) → took.sending.count ≡ last_piece (length plain)
  count-is start writer plain empty small took =
      let t : start.held.items ++ plain ≡ plain = ap (λ (h : List ℕ). h ++ plain) empty in
      let left : length writer.held.items ≡ length plain - 65536 * took.sending.count =
      ap length took.sending.held ∙ length-drop (65536 * took.sending.count) (start.held.items ++ plain)
      ∙ ap (λ (z : List ℕ). length z - 65536 * took.sending.count) t in
      let n = took.sending.count in
      let whole : 65536 * n ≤ length plain = rw t at took.sending.fits in
      elim (cases_lt 0 n) [
        | inl more ↦ let held : 0 < length writer.held.items = took.followed more in omega (arith, left, small, whole)
        | inr none ↦ omega (arith, left, small, whole)
      ]

  sent-took : (writer : StreamWriter S W) → length writer.held.items ≤ 65536 →
      (start : StreamWriter S W) (key plain : List ℕ) (first : W) → WasMade key first start →
      Took seal_of inner_appended start plain writer →
      inner_appended first (middle_seals seal_of key plain (last_piece (length plain))) writer.inner
  sent-took writer small start key plain first made took =
      let t : start.held.items ++ plain ≡ plain = ap (λ (h : List ℕ). h ++ plain) made.none_held in
      let count : took.sending.count ≡ last_piece (length plain) = count-is start writer plain made.none_held small took in
      rw (middles-all seal_of key (last_piece (length plain)) plain)
      (rw (t, count, made.none_sealed, made.same_key, made.same_inner) at took.sending.sent)

  -- the last piece is what is held
  last-held : (writer : StreamWriter S W) → length writer.held.items ≤ 65536 → (start : StreamWriter S W) (key plain : List ℕ) (first : W) →
      WasMade key first start → Took seal_of inner_appended start plain writer →
      payload seal_of key plain ≡ middle_seals seal_of key plain (last_piece (length plain)) ++ last_seal seal_of writer
  last-held writer small start key plain first made took =
      let s = took.sending in
      let n = last_piece (length plain) in
      let t : start.held.items ++ plain ≡ plain = ap (λ (h : List ℕ). h ++ plain) made.none_held in
      let count : s.count ≡ n = count-is start writer plain made.none_held small took in
      let held : writer.held.items ≡ drop (65536 * n) plain = s.held ∙ rw (t, count) refl in
      let sealed : writer.sealed ≡ n = s.sealed ∙ rw (made.none_sealed, count, zero-add) refl in
      payload-parts seal_of key plain ∙ rw (middles-all seal_of key n plain, s.same_key, made.same_key, sealed, held) refl

  -- all pieces but the last went out as middle chunks
  pub sent-so_far : (writer : StreamWriter S W) → length writer.held.items ≤ 65536 → writer.failed ≡ false →
      (start : StreamWriter S W) (key plain : List ℕ) (first : W) → WasMade key first start →
      Appended seal_of inner_appended start plain writer →
      inner_appended first (middle_seals seal_of key plain (last_piece (length plain))) writer.inner
  sent-so_far writer small good start key plain first made appended =
      sent-took writer small start key plain first made (Appended-took start writer plain good appended)

  -- the last piece goes out as the last
  pub sealed-last : ((a b c : W) (x y : List ℕ) → inner_appended a x b → inner_appended b y c → inner_appended a (x ++ y) c) →
      (writer : StreamWriter S W) (inner : W) → length writer.held.items ≤ 65536 → writer.failed ≡ false →
      inner_appended writer.inner (seal_of writer.key (chunk_nonce writer.sealed true) writer.held.items) inner →
      (start : StreamWriter S W) (key plain : List ℕ) (first : W) → WasMade key first start →
      Appended seal_of inner_appended start plain writer → inner_appended first (payload seal_of key plain) inner
  sealed-last joins writer inner small good sent start key plain first made appended =
      let took = Appended-took start writer plain good appended in
      subst (λ (z : List ℕ). inner_appended first z inner) (sym (last-held writer small start key plain first made took))
      (joins first writer.inner inner _ _ (sent-took writer small start key plain first made took) sent)

  -- a beginning of the last chunk, after all others
  pub sealed-front : ((a b c : W) (x y : List ℕ) → inner_appended a x b → inner_appended b y c → inner_appended a (x ++ y) c) →
      (writer : StreamWriter S W) (inner : W) → length writer.held.items ≤ 65536 → writer.failed ≡ false →
      AppendsFront inner_appended (last_seal seal_of writer) writer.inner inner →
      (start : StreamWriter S W) (key plain : List ℕ) (first : W) → WasMade key first start →
      Appended seal_of inner_appended start plain writer → AppendsFront inner_appended (payload seal_of key plain) first inner
  sealed-front joins writer inner small good sent start key plain first made appended =
      let took = Appended-took start writer plain good appended in
      subst (λ (z : List ℕ). AppendsFront inner_appended z first inner) (sym (last-held writer small start key plain first made took))
      (front-later inner_appended joins _ _ first writer.inner inner (sent-took writer small start key plain first made took) sent)

module _ {S W : Type 0} (refuses : W → ℕ → Error → Type 0) where
  -- what may be refused of fewer bytes may be of more
  pub Refused-more : (s : StreamWriter S W) (m n : ℕ) (e : Error) → m ≤ n → Refused refuses s m e → Refused refuses s n e
  Refused-more s m n e fewer (inl failed) = inl failed
  Refused-more s m n e fewer (inr (good, inl long)) = inr (good, inl (long.0, omega (arith, long.1, fewer)))
  Refused-more s m n e fewer (inr (good, inr chunk)) = inr (good, inr chunk)

  -- none of them is an interruption
  pub Refused-patient : (s : StreamWriter S W) (n : ℕ) (e : Error) → Refused refuses s n e → IsInterruption e → ⊥
  Refused-patient s n e (inl failed) is = subst IsInterruption failed.1 is
  Refused-patient s n e (inr (good, inl long)) is = subst IsInterruption long.0 is
  Refused-patient s n e (inr (good, inr chunk)) is = refuses-chunk-patient refuses s.inner e chunk is

  -- after n bytes were taken
  pub Refused-narrows : (a c : StreamWriter S W) (n : ℕ) → a.failed ≡ false → c.failed ≡ false → taken_len c ≡ taken_len a + n →
      ((e : Error) → RefusesChunk refuses c.inner e → RefusesChunk refuses a.inner e) → Narrows (Refused refuses) a n c
  Refused-narrows a c n good good_after count narrows more e (inl failed) = absurd (true≢false (sym failed.0 ∙ good_after))
  Refused-narrows a c n good good_after count narrows more e (inr (still, inl long)) = inr (good, inl (long.0, omega (arith, long.1, count)))
  Refused-narrows a c n good good_after count narrows more e (inr (still, inr chunk)) = inr (good, inr (narrows e chunk))

  -- of a writer that has taken nothing
  pub Refused-made : (key : List ℕ) (inner : W) (s : StreamWriter S W) (n : ℕ) (e : Error) → WasMade key inner s → Refused refuses s n e →
      ((e ≡ TooLong) × (2 ^ 60 < n)) ⊎ RefusesChunk refuses inner e
  Refused-made key inner s n e made (inl failed) = absurd (true≢false (sym failed.0 ∙ made.good))
  Refused-made key inner s n e made (inr (good, inl long)) =
      let none : taken_len s ≡ 0 = omega (arith, made.none_sealed, s.held.ok.0, ap length made.none_held) in
      inl (long.0, omega (arith, long.1, none))
  Refused-made key inner s n e made (inr (good, inr chunk)) = inr (subst (λ w. RefusesChunk refuses w e) made.same_inner chunk)
