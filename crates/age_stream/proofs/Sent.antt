-- What a writer had sent when it refused.
use Rattle.std.specs.Prelude.{◌≡◌, ℕ, ◌+◌, ◌-◌, ◌*◌, ◌≤◌, ◌<◌, false, List, [], ◌++◌, length, take, drop}
use Rattle.std.proofs.Common.{sym, ap, ◌∙◌, inl, inr, arith, append_assoc, length-append, length-drop, take_at}
use Rattle.std.proofs.lemmas.Bool.{true≢false, cases_lt}
use Rattle.std.proofs.lemmas.List.{append-nil}
use Rattle.age_io.specs.Copying.{AppendsFront}
use Rattle.age_io.specs.CopyingLemmas.{front-all, front-more}
use Rattle.age_v1.specs.Payload.{Seal, chunk_nonce, last_piece, payload}
use Rattle.age_stream.specs.Writing.{middles, WasMade, Sent, Took, Appended, SendsFront}
use Rattle.age_stream.specs.WritingLemmas.{Appended-took, middles-both, payload-parts, sends-after, sends-later, sends-more}
use Rattle.age_stream.specs.declared.writer.StreamWriter.{StreamWriter}

module _ {S W : Type 0} (seal_of : Seal) (appended : W → List ℕ → W → Type 0) where
  -- nothing was sent
  pub sends-nothing : (s : StreamWriter S W) (bytes : List ℕ) (c : W) → appended s.inner [] c → SendsFront seal_of appended s bytes c
  sends-nothing s bytes c out = record {
    count = 0;
    followed = λ some. absurd (omega (arith, some));
    out = front-all appended [] s.inner c out;
  }

  pub sends-none : ((w : W) → appended w [] w) → (s : StreamWriter S W) (bytes : List ℕ) → SendsFront seal_of appended s bytes s.inner
  sends-none nothing s bytes = sends-nothing s bytes s.inner (nothing s.inner)

  -- a beginning of the piece that was held, which a byte follows
  pub sends-held : (s : StreamWriter S W) (bytes : List ℕ) (c : W) → length s.held.items ≡ 65536 → 0 < length bytes →
      AppendsFront appended (seal_of s.key (chunk_nonce s.sealed false) s.held.items) s.inner c → SendsFront seal_of appended s bytes c
  sends-held s bytes c full some f =
      let one : take 65536 (s.held.items ++ bytes) ≡ s.held.items = take_at s.held.items bytes 65536 full in
      record {
        count = 1;
        followed = λ _. omega (arith, full, some, length-append s.held.items bytes);
        out = rw (one, append-nil) f;
      }

  -- a beginning of a piece that was given, which a byte follows
  pub sends-piece : (s : StreamWriter S W) (bytes : List ℕ) (c : W) → s.held.items ≡ [] → 65536 < length bytes →
      AppendsFront appended (seal_of s.key (chunk_nonce s.sealed false) (take 65536 bytes)) s.inner c → SendsFront seal_of appended s bytes c
  sends-piece s bytes c empty more f =
      let t : s.held.items ++ bytes ≡ bytes = ap (λ (h : List ℕ). h ++ bytes) empty in
      record {
        count = 1;
        followed = λ _. rw t (omega (arith, more));
        out = rw (t, append-nil) f;
      }

  -- all that was sent of what it took
  pub sends-taken : (a b : StreamWriter S W) (bytes : List ℕ) → Took seal_of appended a bytes b → SendsFront seal_of appended a bytes b.inner
  sends-taken a b bytes took =
      let s = took.sending in
      let left : length b.held.items ≡ length (a.held.items ++ bytes) - 65536 * s.count =
      ap length s.held ∙ length-drop (65536 * s.count) (a.held.items ++ bytes) in
      record {
        count = s.count;
        followed = λ some. omega (arith, took.followed some, left);
        out = front-all appended _ a.inner b.inner s.sent;
      }

  -- where bytes followed what was taken
  pub sends-on : ((a b c : W) (x y : List ℕ) → appended a x b → appended b y c → appended a (x ++ y) c) →
      (a b : StreamWriter S W) (c : W) (x y : List ℕ) → Sent seal_of appended a x b → 0 < length y → SendsFront seal_of appended b y c →
      SendsFront seal_of appended a (x ++ y) c
  sends-on joins a b c x y first some second =
      let all : a.held.items ++ (x ++ y) ≡ (a.held.items ++ x) ++ y = sym (append_assoc a.held.items x y) in
      sends-later seal_of appended joins a b c x y first second
      (λ _. omega (arith, first.fits, some, ap length all, length-append (a.held.items ++ x) y))

-- so much of the payload of a plaintext
payload-front : {W : Type 0} (seal_of : Seal) (appended : W → List ℕ → W → Type 0) (key p : List ℕ) (k : ℕ) (a c : W)
    → (0 < k → 65536 * k < length p) →
    AppendsFront appended (middles seal_of key 0 k p) a c → AppendsFront appended (payload seal_of key p) a c
payload-front seal_of appended key p k a c followed f =
    let last = last_piece (length p) in
    let within : k ≤ last = elim (cases_lt 0 k) [ inl some ↦ omega (arith, followed some) | inr none ↦ omega (arith, none) ] in
    let count : last ≡ k + (last - k) = omega (arith, within) in
    let parts : middles seal_of key 0 last p ≡ middles seal_of key 0 k p ++ middles seal_of key (0 + k) (last - k) (drop (65536 * k) p)
    = ap (λ (j : ℕ). middles seal_of key 0 j p) count ∙ middles-both seal_of key k (last - k) 0 p in
    rw (payload-parts seal_of key p, parts) (front-more appended _ _ a c (front-more appended _ _ a c f))

module _ {S W : Type 0} (seal_of : Seal) (appended : W → List ℕ → W → Type 0) where
  -- of a writer that was made empty
  sends-whole : (start : StreamWriter S W) (key p : List ℕ) (first after : W) → WasMade key first start → SendsFront seal_of appended start p after →
      AppendsFront appended (payload seal_of key p) first after
  sends-whole start key p first after made sends =
      let t : start.held.items ++ p ≡ p = ap (λ (h : List ℕ). h ++ p) made.none_held in
      let out : AppendsFront appended (middles seal_of key 0 sends.count p) first after =
      rw (t, made.none_sealed, made.same_key, made.same_inner) at sends.out in
      payload-front seal_of appended key p sends.count first after (rw t at sends.followed) out

  -- up to a refusal, and with it
  pub sends-payload : ((a b c : W) (x y : List ℕ) → appended a x b → appended b y c → appended a (x ++ y) c) →
      (start before : StreamWriter S W) (key plain bytes : List ℕ) (first after : W) → WasMade key first start →
      Appended seal_of appended start plain before → before.failed ≡ false → SendsFront seal_of appended before bytes after →
      AppendsFront appended (payload seal_of key (plain ++ bytes)) first after
  sends-payload joins start before key plain bytes first after made took good sends =
      sends-whole start key (plain ++ bytes) first after made
      (sends-after seal_of appended joins start before after plain bytes (Appended-took seal_of appended start before plain good took) sends)

  -- the same where the plaintext goes on
  sends-whole_of_more : (start after : StreamWriter S W) (key plain more : List ℕ) (first : W) → WasMade key first start →
      SendsFront seal_of appended start plain after.inner → AppendsFront appended (payload seal_of key (plain ++ more)) first after.inner
  sends-whole_of_more start after key plain more first made sends =
      sends-whole start key (plain ++ more) first after.inner made (sends-more seal_of appended start plain more after.inner sends)

  -- whatever became of it
  pub sends-front_of_payload : (start after : StreamWriter S W) (key plain more : List ℕ) (first : W) → WasMade key first start →
      Appended seal_of appended start plain after → AppendsFront appended (payload seal_of key (plain ++ more)) first after.inner
  sends-front_of_payload start after key plain more first made (inl stays) = absurd (true≢false (sym stays.failed ∙ made.good))
  sends-front_of_payload start after key plain more first made (inr (inl since)) =
      sends-whole_of_more start after key plain more first made since.sends
  sends-front_of_payload start after key plain more first made (inr (inr taken)) =
      sends-whole_of_more start after key plain more first made (sends-taken seal_of appended start after plain taken.2)
