-- Facts on what a writer appended, by the laws of `Write`.
use Rattle.std.specs.Prelude.{IfErr, IsErrAnd}
use Rattle.std.proofs.Common.{◌≡◌, ◌≢◌, ℕ, ◌+◌, ◌≤◌, ◌<◌, Bool, true, false, IsTrue, List, [], ◌++◌, length, take, drop, subst, sym, ◌∙◌, arith, append-nil, OnErr, Result, Ok, Err, inl}
use Rattle.std.proofs.lemmas.Grind.{common_steps}
use Rattle.std.proofs.lemmas.List.{drop-take, take-append-drop, take-take}
use Rattle.age_error.specs.Refusals.{IsDevice, IsInterruption}
use Rattle.age_error.specs.declared.io.Error.{Error}
use Rattle.age_error.specs.declared.io.Error.TheVariants.{WriteZero, Device}
use Rattle.age_error.specs.declared.io.ErrorKind.TheVariants.{Interrupted}
use Rattle.age_io.specs.declared.traits.Write.{Ghosts}
use Rattle.age_io.specs.Writing.{Narrows, Retried, Writes, WritesAll, Flushes}
use Rattle.age_io.specs.WritingLemmas.{narrows-now, narrows-both, retried-narrows}
use Rattle.age_io.proofs.Retrying.{rose-by, interrupted-by, interruption-why}

pub take-both : (xs : List ℕ) (at n : ℕ) → take at xs ++ take n (drop at xs) ≡ take (at + n) xs
take-both xs at n = grind (arith, common_steps, drop-take at n xs, take-take at (at + n) xs, take-append-drop at (take (at + n) xs))

-- what holds anyhow holds of an error
pub OnErr-of : {A E : Type 0} (r : Result A E) {P : Type 0} → P → OnErr r P
OnErr-of (Ok x) h = tt
OnErr-of (Err e) h = h

-- After so much of what a writer was to be given it may refuse what the first state may of the whole.
pub record HasLeft {S : Type 0} (refuses : S → ℕ → Error → Type 0) (old new : S) (whole left : ℕ) : Type 0 where
  pub given : ℕ
  pub joined : whole ≡ given + left
  pub narrows : Narrows refuses old given new

module _ {S : Type 0} (refuses : S → ℕ → Error → Type 0) where
  pub left-fewer : (old mid new : S) (whole left n less : ℕ) → left ≡ n + less → HasLeft refuses old mid whole left →
      Narrows refuses mid n new → HasLeft refuses old new whole less
  left-fewer old mid new whole left n less size before more = record {
    given = before.given + n;
    joined = omega (arith, size, before.joined);
    narrows = narrows-both refuses old mid new before.given n before.narrows more;
  }

  pub left-refused : ((w : S) (m n : ℕ) (e : Error) → m ≤ n → refuses w m e → refuses w n e) →
      (old mid : S) (whole left n : ℕ) (e : Error) → n ≤ left → HasLeft refuses old mid whole left → refuses mid n e → refuses old whole e
  left-refused more old mid whole left n e fewer before h =
      more old (before.given + n) whole e (omega (arith, before.joined, fewer)) (before.narrows n e h)

-- calls that were interrupted, so that nothing was appended
pub record Untouched {S : Type 0} (tells : S → Bool) (faults : S → ℕ) (refuses : S → ℕ → Error → Type 0) (appended : S → List ℕ → S → Type 0)
    (old new : S) : Type 0 where
  pub same_tells : tells new ≡ tells old
  pub no_fewer_faults : faults old ≤ faults new
  pub narrows : Narrows refuses old 0 new
  pub nothing : IsTrue (tells old) → appended old [] new

module _ {S : Type 0} (tells : S → Bool) (faults : S → ℕ) (refuses : S → ℕ → Error → Type 0) (appended : S → List ℕ → S → Type 0)
    (joins : (a b c : S) (x y : List ℕ) → appended a x b → appended b y c → appended a (x ++ y) c) where
  -- a write after them, which was not interrupted
  pub writes-later : (old mid new : S) (bytes : List ℕ) (r : Result ℕ Error) → Untouched tells faults refuses appended old mid →
      IfErr r (λ e. IsInterruption e → ⊥) →
      Writes tells faults refuses appended mid new bytes r → Writes tells faults (Retried refuses) appended old new bytes r
  writes-later old mid new bytes (Ok n) u patient w = record {
    count = w.count;
    same_tells = w.same_tells ∙ u.same_tells;
    no_fewer_faults = omega (arith, u.no_fewer_faults, w.no_fewer_faults);
    device = tt;
    why = tt;
    takes_none = λ none some. inl ((λ is. is), narrows-now refuses old mid u.narrows (length bytes) WriteZero (w.takes_none none some));
    narrows = retried-narrows refuses old new n (λ more e h. narrows-now refuses old mid u.narrows (n + more) e (w.narrows more e h));
    interrupted = tt;
    takes_front = λ told. joins old mid new [] (take n bytes) (u.nothing told) (w.takes_front (u.same_tells ∙ told));
    takes_part = λ told. tt;
    takes_nothing = λ told. tt;
  }
  writes-later old mid new bytes (Err e) u patient w = record {
    count = tt;
    same_tells = w.same_tells ∙ u.same_tells;
    no_fewer_faults = omega (arith, u.no_fewer_faults, w.no_fewer_faults);
    device = λ is. omega (arith, w.device is, u.no_fewer_faults);
    why = inl (patient, narrows-now refuses old mid u.narrows (length bytes) e w.why);
    takes_none = tt;
    narrows = tt;
    interrupted = λ is. absurd (patient is);
    takes_front = λ told. tt;
    takes_part = λ told. let (n, most, out) = w.takes_part (u.same_tells ∙ told) in
        (n, most, joins old mid new [] (take n bytes) (u.nothing told) out);
    takes_nothing = λ told is. absurd (patient is);
  }

  -- a flush after them, which was not interrupted
  pub flushes-later : {T : Type 0} (old mid new : S) (r : Result T Error) → Untouched tells faults refuses appended old mid →
      IfErr r (λ e. IsInterruption e → ⊥) →
      Flushes tells faults refuses appended mid new r → Flushes tells faults (Retried refuses) appended old new r
  flushes-later old mid new (Ok x) u patient f = record {
    same_tells = f.same_tells ∙ u.same_tells;
    no_fewer_faults = omega (arith, u.no_fewer_faults, f.no_fewer_faults);
    device = tt;
    unspent = f.unspent;
    why = tt;
    narrows = retried-narrows refuses old new 0 (λ more e h. u.narrows more e (narrows-now refuses mid new f.narrows more e h));
    interrupted = tt;
    nothing = λ told. joins old mid new [] [] (u.nothing told) (f.nothing (u.same_tells ∙ told));
  }
  flushes-later old mid new (Err e) u patient f = record {
    same_tells = f.same_tells ∙ u.same_tells;
    no_fewer_faults = omega (arith, u.no_fewer_faults, f.no_fewer_faults);
    device = λ is. omega (arith, f.device is, u.no_fewer_faults);
    unspent = tt;
    why = inl (patient, narrows-now refuses old mid u.narrows 0 e f.why);
    narrows = tt;
    interrupted = λ is. absurd (patient is);
    nothing = λ told. joins old mid new [] [] (u.nothing told) (f.nothing (u.same_tells ∙ told));
  }

  -- another interrupted write or flush
  pub untouched-more : (old mid new : S) → Untouched tells faults refuses appended old mid → tells new ≡ tells mid →
      faults mid ≤ faults new → Narrows refuses mid 0 new → (IsTrue (tells mid) → appended mid [] new) →
      Untouched tells faults refuses appended old new
  untouched-more old mid new u same_tells more narrows none = record {
    same_tells = same_tells ∙ u.same_tells;
    no_fewer_faults = omega (arith, u.no_fewer_faults, more);
    narrows = narrows-both refuses old mid new 0 0 u.narrows narrows;
    nothing = λ told. joins old mid new [] [] (u.nothing told) (none (u.same_tells ∙ told));
  }

  -- more bytes of the same list
  pub further : (a b c : S) (xs : List ℕ) (at n : ℕ) → appended a (take at xs) b → appended b (take n (drop at xs)) c →
      appended a (take (at + n) xs) c
  further a b c xs at n p q =
      subst (λ l. appended a l c) (take-both xs at n) (joins a b c (take at xs) (take n (drop at xs)) p q)

  pub before_nothing : (a b c : S) (x : List ℕ) → appended a x b → appended b [] c → appended a x c
  before_nothing a b c x p q = subst (λ l. appended a l c) (append-nil x) (joins a b c x [] p q)

-- a writer after so many calls that were given so many bytes, each of which was interrupted
pub record InterruptedWrites {W : Type 0} (write : Ghosts W) (size : ℕ) (old new : W) (calls : ℕ) : Type 0 where
  pub untouched : Untouched write.tells write.faults write.refuses write.appended old new
  pub rose : 0 < calls → write.faults old < write.faults new
  pub worn : 0 < calls → write.refuses old size (Device Interrupted)

pub interrupted-more : {W A : Type 0} (write : Ghosts W)
    (joins : (a b c : W) (x y : List ℕ) → write.appended a x b → write.appended b y c → write.appended a (x ++ y) c)
    (size : ℕ) (old mid new : W) (calls : ℕ) (r : Result A Error) → InterruptedWrites write size old mid calls → IsErrAnd r IsInterruption →
    write.tells new ≡ write.tells mid → write.faults mid ≤ write.faults new → IfErr r (λ e. IsDevice e → write.faults mid < write.faults new) →
    IfErr r (write.refuses mid size) → IfErr r (λ e. IsInterruption e → Narrows write.refuses mid 0 new)
    → (IsTrue (write.tells mid) → write.appended mid [] new) →
    InterruptedWrites write size old new (calls + 1)
interrupted-more write joins size old mid new calls r before is same_tells more device why narrows none =
    let rose : write.faults mid < write.faults new = rose-by r is device in
    record {
      untouched = untouched-more write.tells write.faults write.refuses write.appended joins old mid new before.untouched same_tells more
          (interrupted-by r is narrows) none;
      rose = λ _. omega (arith, before.untouched.no_fewer_faults, rose);
      worn = λ _. narrows-now write.refuses old mid before.untouched.narrows size _ (interruption-why (write.refuses mid size) r is why);
    }

-- A piece that is the front went by an exchange, or was refused there.
module _ {W : Type 0} (write : Ghosts W) (old new : W) (front piece : List ℕ) (same : front ≡ piece) where
  abbrev Goes : {T : Type 0} → List ℕ → Result T Error → Type 0
  Goes bytes result = WritesAll write.tells write.faults (Retried write.refuses) write.appended old new bytes result

  pub exchanged : {T : Type 0} {x : T} (b : Bool) → b ≡ true → (◌≢◌ {A = Result Bool Error} (Ok b) (Ok false) → Goes {T = Bool} piece (Ok b))
      → Goes {T = T} front (Ok x)
  exchanged {T} {x} b took goes =
      let whole = goes (λ none. let is : ◌≡◌ {A = Result Bool Error} (Ok b) (Ok false) = none in cc) in
      subst (λ (bytes : List ℕ). Goes {T = T} bytes (Ok x)) (sym same) (record {
        same_tells = whole.same_tells;
        no_fewer_faults = whole.no_fewer_faults;
        device = tt;
        why = tt;
        narrows = whole.narrows;
        takes_all = whole.takes_all;
        takes_front = λ told. tt;
      })

  pub unexchanged : {T : Type 0} (e : Error) → (◌≢◌ {A = Result Bool Error} (Err e) (Ok false) → Goes {T = Bool} piece (Err e))
      → Goes {T = T} front (Err e)
  unexchanged {T} e goes =
      let refused = goes (λ none. let is : ◌≡◌ {A = Result Bool Error} (Err e) (Ok false) = none in cc) in
      subst (λ (bytes : List ℕ). Goes {T = T} bytes (Err e)) (sym same) (record {
        same_tells = refused.same_tells;
        no_fewer_faults = refused.no_fewer_faults;
        device = refused.device;
        why = refused.why;
        narrows = tt;
        takes_all = λ told. tt;
        takes_front = refused.takes_front;
      })
