-- A refusal that says that a target is outside is none of a read of a payload.
use Rattle.std.proofs.Common.{inl, inr, subst}
use Rattle.age_error.specs.declared.io.Error.{Error}
use Rattle.age_error.specs.declared.io.Error.TheVariants.{BeforeStart, PastEnd}
use Rattle.age_suite.specs.declared.suite.Suite.{Ghosts as SuiteGhosts}
use Rattle.age_io.specs.declared.traits.Read.{Ghosts}
use Rattle.age_io.specs.Cursor.{IsOutside}
use Rattle.age_io.specs.Reading.{TriedAgain}
use Rattle.age_stream.specs.declared.reader.StreamReader.{StreamReader}
use Rattle.age_stream.specs.Keeping.{IsPayloadRefusal}
use Rattle.age_stream.specs.Reader.{refuses_of}

no-refusal : (e : Error) → IsOutside e → IsPayloadRefusal e → ⊥
no-refusal BeforeStart outside own = own
no-refusal PastEnd outside own = own
no-refusal _ outside own = outside

module _ {S R : Type 0} {suite : SuiteGhosts S} {read : Ghosts R} where
  pub outside-inner : (r : StreamReader S R suite read) (e : Error) → IsOutside e → refuses_of r e → TriedAgain read.refuses r.source.inner e
  outside-inner r e outside why = elim why [
    | inl failed ↦ absurd (subst IsOutside failed.1 outside)
    | inr more ↦ elim more [
      | inl own ↦ absurd (no-refusal e outside own.is)
      | inr inner ↦ inner
    ]
  ]
