-- Filling a buffer piece by piece.
use Rattle.std.specs.Prelude.{◌≡◌, ℕ, ◌+◌, ◌≤◌, ◌<◌, IsTrue, List, ◌++◌, length, take, Ok, Err, ⊤}
use Rattle.std.proofs.Common.{arith, subst, sym, ◌∙◌, append-nil, length-take-le}
use Rattle.age_error.specs.declared.io.Error.{Error}
use Rattle.age_io.specs.declared.traits.Read.{Ghosts}
use Rattle.age_io.specs.Keeping.{SameReader}
use Rattle.age_io.specs.Reading.{Reads, ReadsInTurn, GivesInAll, AddsNoReason, TriedAgain, Delivers, most_faults}
use Rattle.age_io.specs.Turns.{GivesTried, RefusesTried}
use Rattle.age_io.proofs.Delivering.{Delivers-joined, gives-more}
use Rattle.age_io.proofs.Keeping.{same-later, same-read}
use Rattle.age_io.proofs.Turning.{turns-more, clean-after}

module _ {R : Type 0} (read : Ghosts R) where
  -- what the reader gave stands in front of the buffer, up to this place
  pub record IsFilled (buf : List ℕ) (at : ℕ) (old new : R) : Type 0 where
    pub same : SameReader read old new
    pub narrows : AddsNoReason (TriedAgain read.refuses) old new
    pub within : at ≤ length buf
    pub moved : IsTrue (read.tells old) → read.place new ≡ read.place old + at
    pub so_far : IsTrue (read.tells old) → Delivers (take at buf) (read.rest old) (read.rest new)
    pub unspent : 0 < at → read.faults new < most_faults
    pub turns : (n : ℕ) × ReadsInTurn read.tells read.steady read.content read.place read.rest read.faults (TriedAgain read.refuses)
        (λ _ _ _ _ _. ⊤) n old new (take at buf)

  -- and after a further read up to a later one
  pub filled-more : (buf after got : List ℕ) (at n : ℕ) (old between new : R) → take (at + n) after ≡ take at buf ++ take n got
      → at + n ≤ length after →
      0 < length got → IsFilled buf at old between →
      Reads read.tells read.steady read.content read.place read.rest read.faults (TriedAgain read.refuses) between new got (Ok n)
      → IsFilled after (at + n) old new
  filled-more buf after got at n old between new front within some before reads = record {
    same = same-later read old between new before.same (same-read read between new reads);
    narrows = λ e h. before.narrows e (reads.narrows e h);
    within = within;
    moved = λ told. omega (arith, reads.moves (before.same.tells ∙ told), before.moved told);
    so_far = λ told.
        subst (λ (l : List ℕ). Delivers l (read.rest old) (read.rest new)) (sym front)
        (Delivers-joined (take at buf) (take n got) (read.rest old) (read.rest between) (read.rest new) (before.so_far told)
        (reads.bytes (before.same.tells ∙ told)));
    unspent = λ _. reads.unspent some;
    turns = turns-more read.tells read.steady read.content read.place read.rest read.faults (TriedAgain read.refuses)
        (λ _ _ _ _ _. ⊤) old between new (take at buf)
        (take (at + n) after) got got n before.turns reads tt front;
  }

  filled-gives : (buf : List ℕ) (at : ℕ) (old new : R) → IsFilled buf at old new →
      GivesInAll read.tells read.steady read.content read.place read.rest read.faults (TriedAgain read.refuses) old new (take at buf)
  filled-gives buf at old new f = record {
    same_tells = f.same.tells;
    same_steady = f.same.steady;
    no_fewer_faults = f.same.faults;
    narrows = f.narrows;
    same_content = f.same.content;
    bytes = f.so_far;
    moves = λ told. omega (arith, f.moved told, length-take-le at buf f.within);
  }

  -- it is full
  pub filled-all : (buf : List ℕ) (at : ℕ) (old new : R) → length buf ≤ at → IsFilled buf at old new
      → GivesTried read (length buf) (take at buf) old new
  filled-all buf at old new full f = record {
    most = omega (arith, f.within, length-take-le at buf f.within);
    gives = filled-gives buf at old new f;
    turns = f.turns;
    end = λ told less. absurd (omega (arith, less, full, length-take-le at buf f.within));
    finds = λ less. absurd (omega (arith, less, full, length-take-le at buf f.within));
  }

  -- a further read answered 0
  pub filled-end : (buf after got : List ℕ) (at n : ℕ) (old between new : R) → n ≡ 0 → take at after ≡ take at buf → at ≤ length after
      → 0 < length got →
      IsFilled buf at old between →
      Reads read.tells read.steady read.content read.place read.rest read.faults (TriedAgain read.refuses) between new got (Ok n)
      → GivesTried read (length after) (take at after) old new
  filled-end buf after got at n old between new none front within some before reads =
      let refuses = TriedAgain read.refuses in
      let zero = subst (λ k. Reads read.tells read.steady read.content read.place read.rest read.faults refuses between new got (Ok k)) none reads in
      let same : take at after ≡ take at buf ++ take 0 got = front ∙ sym (append-nil (take at buf)) in
      record {
        most = omega (arith, within, length-take-le at after within);
        gives = subst (λ l. GivesInAll read.tells read.steady read.content read.place read.rest read.faults refuses old new l) (sym same)
            (gives-more read.tells read.steady read.content read.place read.rest read.faults refuses old between new (take at buf) got 0
            (filled-gives buf at old between before) zero);
        turns = turns-more read.tells read.steady read.content read.place read.rest read.faults refuses (λ _ _ _ _ _. ⊤) old between new (take at buf)
            (take at after) got got 0 before.turns zero tt same;
        end = λ told less. clean-after read.tells read.steady read.content read.place read.rest read.faults refuses between new got zero
            (before.same.tells ∙ told) some;
        finds = λ less. (
          between,
          before.turns.0,
          subst (λ l. ReadsInTurn read.tells read.steady read.content read.place read.rest read.faults refuses
              (λ _ _ _ _ _. ⊤) before.turns.0 old between l) (sym front) before.turns.1,
          record { room = got; buf = got; some = some; reads = zero; own = tt },
        );
      }

  -- a further read was refused
  pub filled-refused : (buf after got : List ℕ) (at : ℕ) (e : Error) (old between new : R) → take at after ≡ take at buf → at < length after →
      IsFilled buf at old between →
      Reads read.tells read.steady read.content read.place read.rest read.faults (TriedAgain read.refuses) between new got (Err e) →
      RefusesTried read (length after) (take at after) e old new
  filled-refused buf after got at e old between new front less before reads =
      let refuses = TriedAgain read.refuses in
      record {
        fewer = omega (arith, less, length-take-le at after (omega (arith, less)));
        between = between;
        gives = subst (λ l. GivesInAll read.tells read.steady read.content read.place read.rest read.faults refuses old between l) (sym front)
            (filled-gives buf at old between before);
        turns = (
          before.turns.0,
          subst (λ l. ReadsInTurn read.tells read.steady read.content read.place read.rest read.faults refuses
              (λ _ _ _ _ _. ⊤) before.turns.0 old between l) (sym front) before.turns.1,
        );
        room = got;
        buf = got;
        refused = reads;
        own = tt;
      }
