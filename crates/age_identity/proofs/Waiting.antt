-- A reader with a limit whose calls were interrupted.
use Rattle.std.proofs.Common.{◌≡◌, ◌∙◌, inl, subst, arith, ℕ, ◌+◌, ◌<◌, ◌≤◌, IsTrue, false, List, length, take, Result, Ok, Err, IfErr}
use Rattle.age_error.specs.Refusals.{IsInterruption}
use Rattle.age_error.specs.declared.io.Error.{Error}
use Rattle.age_error.specs.declared.io.ErrorKind.TheVariants.{Interrupted as interrupted}
use Rattle.age_io.specs.declared.traits.Read.{Ghosts}
use Rattle.age_io.specs.Reading.{AddsNoReason, TriedAgain, Reads, StaysOrFails, Delivers}
use Rattle.age_io.specs.Stretch.{IsFault, IsCleanEnd}
use Rattle.age_io.proofs.Retrying.{Interrupted, tried-narrows}
use Rattle.age_identity.specs.declared.util.LimitedReader.{LimitedReader}
use Rattle.age_identity.specs.declared.parser.Parser.{Parser}
use Rattle.age_identity.specs.Progress.{IsAt}
use Rattle.age_identity.specs.Limited.{inner_of, is_past, left_of}

-- so many calls were interrupted, and the reader stands where it stood
pub record IsWaiting {R : Type 0} (read : Ghosts R) (old new : LimitedReader R) (calls : ℕ) : Type 0 where
  pub calls_made : Interrupted read (inner_of old) (inner_of new) calls
  pub within : is_past new ≡ false
  pub left : left_of new ≡ left_of old

module _ {R : Type 0} (read : Ghosts R) (old middle new : R) (calls : ℕ) (w : Interrupted read old middle calls) where
  -- a call wasn't interrupted
  pub waits_ended : (part : List ℕ) (result : Result ℕ Error) → IfErr result (λ e. IsInterruption e → ⊥) →
      Reads read.tells read.steady read.content read.place read.rest read.faults read.refuses middle new part result →
      Reads read.tells read.steady read.content read.place read.rest read.faults (TriedAgain read.refuses) old new part result
  waits_ended part (Ok n) patient r = record {
    count = r.count;
    same_tells = r.same_tells ∙ w.same.tells;
    same_steady = r.same_steady ∙ w.same.steady;
    no_fewer_faults = let h : read.faults old ≤ read.faults new = omega (arith, r.no_fewer_faults, w.same.faults) in h;
    device = tt;
    unspent = r.unspent;
    why = tt;
    narrows = tried-narrows read.refuses old new (λ e h. w.narrows e (r.narrows e h));
    again = tt;
    same_content = λ told. r.same_content (w.same.tells ∙ told) ∙ w.same.content told;
    bytes = λ told. subst (λ s. Delivers (take n part) s (read.rest new)) (w.same_rest told) (r.bytes (w.same.tells ∙ told));
    moves = λ told. let h : read.place new ≡ read.place old + n = omega (arith, r.moves (w.same.tells ∙ told), w.same_place told) in h;
    end = λ told none some. subst IsCleanEnd (w.same_rest told) (r.end (w.same.tells ∙ told) none some);
    stays = λ told. tt;
    left = λ told. tt;
    interrupted = λ told. tt;
    cause = λ told. tt;
  }
  waits_ended part (Err e) patient r = record {
    count = tt;
    same_tells = r.same_tells ∙ w.same.tells;
    same_steady = r.same_steady ∙ w.same.steady;
    no_fewer_faults = let h : read.faults old ≤ read.faults new = omega (arith, r.no_fewer_faults, w.same.faults) in h;
    device = λ is. let h : read.faults middle < read.faults new = r.device is in omega (arith, h, w.same.faults);
    unspent = tt;
    why = inl (patient, w.narrows e r.why);
    narrows = tt;
    again = λ is. absurd (patient is);
    same_content = λ told. r.same_content (w.same.tells ∙ told) ∙ w.same.content told;
    bytes = λ told. tt;
    moves = λ told. tt;
    end = λ told. tt;
    stays = λ told. r.stays (w.same.tells ∙ told) ∙ w.same_place told;
    left = λ told. subst (λ s. StaysOrFails s (read.rest new)) (w.same_rest told) (r.left (w.same.tells ∙ told));
    interrupted = λ told is. absurd (patient is);
    cause = λ told other quiet.
        let same : read.faults new ≡ read.faults middle = omega (arith, quiet.same, r.no_fewer_faults, w.same.faults) in
        subst IsFault (w.same_rest told) (r.cause (w.same.tells ∙ told) other (record { same = same; below = quiet.below }));
  }

-- What was read of a file so far: the text, whose finished lines are good, was taken from the front of what the reader had, and what its
-- limit leaves is so much less.
pub record HasRead {R S : Type 0} (read : Ghosts R) (start reader : LimitedReader R) (parser : Parser S) : Type 0 where
  pub tells : read.tells (inner_of reader) ≡ read.tells (inner_of start)
  pub faults : read.faults (inner_of start) ≤ read.faults (inner_of reader)
  pub narrows : AddsNoReason (TriedAgain read.refuses) (inner_of start) (inner_of reader)
  pub within : is_past reader ≡ false
  pub text : List ℕ
  pub counted : length text + left_of reader ≡ left_of start
  pub here : IsAt parser text
  pub so_far : IsTrue (read.tells (inner_of start)) → Delivers text (read.rest (inner_of start)) (read.rest (inner_of reader))
