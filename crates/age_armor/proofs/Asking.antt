-- A call that asks a reader for bytes, and is tried again after an interruption.
use Rattle.std.proofs.Common.{◌∙◌, ℕ, ◌+◌, Result, Ok, Err, IfErr, arith, inl}
use Rattle.std.specs.Prelude.{IsErrAnd}
use Rattle.age_error.specs.Refusals.{IsInterruption}
use Rattle.age_error.specs.declared.io.Error.{Error}
use Rattle.age_error.specs.declared.io.Error.TheVariants.{Device}
use Rattle.age_error.specs.declared.io.ErrorKind.TheVariants.{Interrupted as interrupted}
use Rattle.age_io.specs.Reading.{TriedAgain}
use Rattle.age_io.specs.declared.traits.Read.{Ghosts}
use Rattle.age_io.proofs.Keeping.{same-later}
use Rattle.age_io.proofs.Retrying.{Interrupted, tried-narrows}
use Rattle.age_armor.proofs.Taking.{quiet_after}
use Rattle.age_armor.specs.PrivateShowing.{AsksReader}

module _ {R : Type 0} (read : Ghosts R) where
  -- the last call, after others that were interrupted
  pub asks_later : {A : Type 0} (result : Result A Error) (a b c : R) (calls : ℕ) → Interrupted read a b calls
      → AsksReader read read.refuses b c result →
      IfErr result (λ e. IsInterruption e → ⊥) → AsksReader read (TriedAgain read.refuses) a c result
  asks_later (Ok x) a b c calls before asks patient = record {
    same = same-later read a b c before.same asks.same;
    device = tt;
    unspent = asks.unspent;
    why = tt;
    narrows = tried-narrows read.refuses a c (λ e h. before.narrows e (asks.narrows e h));
    again = tt;
    stays = λ told. tt;
    interrupted = λ told. tt;
    cause = λ told. tt;
  }
  asks_later (Err e) a b c calls before asks patient = record {
    same = same-later read a b c before.same asks.same;
    device = λ is. omega (arith, before.same.faults, asks.device is);
    unspent = tt;
    why = λ other. inl (patient, before.narrows e (asks.why other));
    narrows = tt;
    again = λ is. absurd (patient is);
    stays = λ told. asks.stays (before.same.tells ∙ told) ∙ before.same_place told;
    interrupted = λ told is. absurd (patient is);
    cause = λ told other quiet.
        rw (before.same_rest told) at (asks.cause (before.same.tells ∙ told) other (quiet_after _ _ _ before.same.faults asks.same.faults quiet));
  }

  -- another interruption
  pub asks_again : {A : Type 0} (result : Result A Error) (a b c : R) (calls : ℕ) → Interrupted read a b calls
      → AsksReader read read.refuses b c result →
      IsErrAnd result IsInterruption → Interrupted read a c (calls + 1)
  asks_again (Ok x) a b c calls before asks is = absurd is
  asks_again (Err (Device interrupted)) a b c calls before asks is = record {
    same = same-later read a b c before.same asks.same;
    rose = λ some. omega (arith, before.same.faults, asks.device tt);
    same_place = λ told. asks.stays (before.same.tells ∙ told) ∙ before.same_place told;
    same_rest = λ told. asks.interrupted (before.same.tells ∙ told) tt ∙ before.same_rest told;
    narrows = λ e h. before.narrows e (asks.again tt e h);
    worn = λ some. before.narrows (Device interrupted) (asks.why (λ memory. cc memory));
  }
  asks_again (Err _) a b c calls before asks is = absurd is
