-- Copying piece by piece.
use Rattle.std.specs.Prelude.{◌≡◌, ◌≢◌, ℕ, ◌≤◌, ◌<◌, Bool, false, IsTrue, List, [], ◌++◌, length, take, drop, Ok, Err}
use Rattle.std.proofs.Common.{arith, refl, sym, ap, subst, ◌∙◌, append_assoc, append-nil, take-append-drop, inl}
use Rattle.age_error.specs.declared.io.Error.{Error}
use Rattle.age_error.specs.declared.io.Error.TheVariants.{OutOfMemory}
use Rattle.age_io.specs.declared.traits.Read.{Ghosts}
use Rattle.age_io.specs.Stretch.{Stretch, IsCleanEnd, IsFault}
use Rattle.age_io.specs.Reading.{Reads, GivesInAll, IsQuiet, TriedAgain}
use Rattle.age_io.proofs.Delivering.{gives-none, gives-more, gives-same}
use Rattle.age_io.proofs.Keeping.{same-self, same-later, same-read, same-given}
use Rattle.age_io.specs.Copying.{AppendsFront, CopiesFront}

-- before a clean end a quiet reader refuses only for want of memory
pub well-is-no-fault : (e : Error) (before after : ℕ) (s : Stretch) → (e ≢ OutOfMemory → IsQuiet before after → IsFault s) →
    IsQuiet before after → IsTrue s.ends_well → e ≡ OutOfMemory
well-is-no-fault OutOfMemory before after s cause quiet well = refl
well-is-no-fault _ before after s cause quiet well =
    let badly : s.ends_well ≡ false = (cause (λ same. Prim.cc) quiet).ends_badly in
    absurd (Prim.cc)

module _ {S : Type 0} (read : Ghosts S) {W : Type 0} (writer_tells : W → Bool) (appended : W → List ℕ → W → Type 0) where
  -- what the reader gave so far was appended
  pub record IsCopied (old new : S) (before after : W) : Type 0 where
    pub front : List ℕ
    pub gives : GivesInAll read.tells read.steady read.content read.place read.rest read.faults (TriedAgain read.refuses) old new front
    pub out : IsTrue (writer_tells before) → appended before front after

  pub copied-none : (s : S) (w : W) → appended w [] w → IsCopied s s w w
  copied-none s w none = record {
    front = [];
    gives = gives-none read.tells read.steady read.content read.place read.rest read.faults (TriedAgain read.refuses) s;
    out = λ told. none;
  }

  -- a beginning was appended
  pub front-copied : (old new : S) (before after : W) → IsCopied old new before after → IsTrue (read.tells old) → IsTrue (writer_tells before) →
      AppendsFront appended (read.rest old).bytes before after
  front-copied old new before after so_far told writer_told = record {
    front = so_far.front;
    after = (read.rest new).bytes;
    joined = (so_far.gives.bytes told).bytes;
    out = so_far.out writer_told;
  }

  -- at a clean end all was appended
  pub all-copied : (old new : S) (before after : W) → IsCopied old new before after → IsTrue (read.tells old) → IsTrue (writer_tells before) →
      IsCleanEnd (read.rest new) → IsTrue (read.rest old).ends_well × appended before (read.rest old).bytes after
  all-copied old new before after so_far told writer_told clean =
      let delivered = so_far.gives.bytes told in
      let all : (read.rest old).bytes ≡ so_far.front = delivered.bytes ∙ ap (λ l. so_far.front ++ l) clean.bytes ∙ append-nil so_far.front in
      (sym delivered.end ∙ clean.ends_well, subst (λ l. appended before l after) (sym all) (so_far.out writer_told))

  -- the reader stands at its end, once a read gave nothing
  pub copied-stands : (old between new : S) (before after : W) (buf : List ℕ) (n : ℕ) → n ≡ 0 → IsCopied old between before after →
      Reads read.tells read.steady read.content read.place read.rest read.faults (TriedAgain read.refuses) between new buf (Ok n) → 0 < length buf →
      GivesInAll read.tells read.steady read.content read.place read.rest read.faults (TriedAgain read.refuses) old new (read.rest old).bytes
  copied-stands old between new before after buf n none so_far r some =
      gives-same read.tells read.steady read.content read.place read.rest read.faults (TriedAgain read.refuses) old new (so_far.front ++ take n buf)
      (read.rest old).bytes
      (λ told. ap (λ k. so_far.front ++ take k buf) none ∙ sym ((so_far.gives.bytes told).bytes
      ∙ ap (λ l. so_far.front ++ l) (r.end (so_far.gives.same_tells ∙ told) none some).bytes))
      (gives-more read.tells read.steady read.content read.place read.rest read.faults (TriedAgain read.refuses) old between new so_far.front buf n
      so_far.gives r)

  module _ (Holds : List ℕ → Type 0) where
    -- where the reader is left if nothing was read
    pub left-unasked : (s : S) (w : W) → Holds [] → appended w [] w →
        CopiesFront read writer_tells appended Holds s s w w
    left-unasked s w holds none = record {
      given = [];
      holds = holds;
      appends = λ told. record { front = []; after = []; joined = refl; out = none };
      same = same-self read s;
      gave = λ told. record { middle = read.rest s; delivered = record { bytes = refl; end = refl }; left = inl refl };
      moves = λ told. omega arith;
    }

    -- where it is left between two pieces
    pub left-between : (old new : S) (before after : W) (so_far : IsCopied old new before after) → Holds so_far.front →
        CopiesFront read writer_tells appended Holds old new before after
    left-between old new before after so_far holds = record {
      given = so_far.front;
      holds = holds;
      appends = λ told. record { front = so_far.front; after = []; joined = sym (append-nil so_far.front); out = so_far.out told };
      same = same-given read old new so_far.gives;
      gave = λ told. record { middle = read.rest new; delivered = so_far.gives.bytes told; left = inl refl };
      moves = so_far.gives.moves;
    }

    -- where it is left by a read that refused
    pub left-by-read : (front : List ℕ) (old between new : S) (before after : W) (buf : List ℕ) (e : Error) → Holds front →
        GivesInAll read.tells read.steady read.content read.place read.rest read.faults (TriedAgain read.refuses) old between front
        → (IsTrue (writer_tells before) → appended before front after) →
        Reads read.tells read.steady read.content read.place read.rest read.faults (TriedAgain read.refuses) between new buf (Err e) →
        CopiesFront read writer_tells appended Holds old new before after
    left-by-read front old between new before after buf e holds gives out r = record {
      given = front;
      holds = holds;
      appends = λ told. record { front = front; after = []; joined = sym (append-nil front); out = out told };
      same = same-later read old between new (same-given read old between gives) (same-read read between new r);
      gave = λ told. record { middle = read.rest between; delivered = gives.bytes told; left = r.left (gives.same_tells ∙ told) };
      moves = λ told. r.stays (gives.same_tells ∙ told) ∙ gives.moves told;
    }

    -- where it is left by a write that refused and took a beginning of a further piece
    pub left-by-write : (joins : (a b c : W) (x y : List ℕ) → appended a x b → appended b y c → appended a (x ++ y) c) →
        (front : List ℕ) (old between new : S) (before half after : W) (buf : List ℕ) (n : ℕ) → Holds (front ++ take n buf) →
        GivesInAll read.tells read.steady read.content read.place read.rest read.faults (TriedAgain read.refuses) old between front
        → (IsTrue (writer_tells before) → appended before front half) →
        Reads read.tells read.steady read.content read.place read.rest read.faults (TriedAgain read.refuses) between new buf (Ok n) →
        (IsTrue (writer_tells before) → (taken : ℕ) × (taken ≤ length (take n buf)) × appended half (take taken (take n buf)) after) →
        CopiesFront read writer_tells appended Holds old new before after
    left-by-write joins front old between new before half after buf n holds gives out r wrote =
        let more = gives-more read.tells read.steady read.content read.place read.rest read.faults
        (TriedAgain read.refuses) old between new front buf n gives r in
        let piece = take n buf in
        record {
          given = front ++ piece;
          holds = holds;
          appends = λ told.
              let taken = (wrote told).0 in
              record {
                front = front ++ take taken piece;
                after = drop taken piece;
                joined = ap (λ l. front ++ l) (sym (take-append-drop taken piece)) ∙ sym (append_assoc front (take taken piece) (drop taken piece));
                out = joins before half after front (take taken piece) (out told) (wrote told).2;
              };
          same = same-given read old new more;
          gave = λ told. record { middle = read.rest new; delivered = more.bytes told; left = inl refl };
          moves = more.moves;
        }

  module _ (joins : (a b c : W) (x y : List ℕ) → appended a x b → appended b y c → appended a (x ++ y) c) where
    pub copied-more : (old between new : S) (before half after : W) (buf : List ℕ) (n : ℕ) → IsCopied old between before half →
        Reads read.tells read.steady read.content read.place read.rest read.faults (TriedAgain read.refuses) between new buf (Ok n)
        → (IsTrue (writer_tells before) → appended half (take n buf) after) →
        IsCopied old new before after
    copied-more old between new before half after buf n so_far r out = record {
      front = so_far.front ++ take n buf;
      gives = gives-more read.tells read.steady read.content read.place read.rest read.faults
          (TriedAgain read.refuses) old between new so_far.front buf n so_far.gives r;
      out = λ told. joins before half after so_far.front (take n buf) (so_far.out told) (out told);
    }

    -- a beginning of a further piece was appended
    pub front-more : (old between new : S) (before half after : W) (buf : List ℕ) (n taken : ℕ) → IsCopied old between before half →
        Reads read.tells read.steady read.content read.place read.rest read.faults (TriedAgain read.refuses) between new buf (Ok n)
        → IsTrue (read.tells old) → IsTrue (writer_tells before) →
        appended half (take taken (take n buf)) after → AppendsFront appended (read.rest old).bytes before after
    front-more old between new before half after buf n taken so_far r told writer_told out =
        let piece = take n buf in
        record {
          front = so_far.front ++ take taken piece;
          after = drop taken piece ++ (read.rest new).bytes;
          joined = ((gives-more read.tells read.steady read.content read.place read.rest read.faults
              (TriedAgain read.refuses) old between new so_far.front buf n so_far.gives r).bytes told).bytes
              ∙ ap (λ p. (so_far.front ++ p) ++ (read.rest new).bytes) (sym (take-append-drop taken piece))
              ∙ regroup so_far.front (take taken piece) (drop taken piece) (read.rest new).bytes;
          out = joins before half after so_far.front (take taken piece) (so_far.out writer_told) out;
        }
      where
        regroup : (a b c d : List ℕ) → (a ++ (b ++ c)) ++ d ≡ (a ++ b) ++ (c ++ d)
        regroup a b c d = simp append_assoc
