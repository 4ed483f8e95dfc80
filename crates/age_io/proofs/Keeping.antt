-- Steps that keep a reader.
use Rattle.std.specs.Prelude.{ℕ, List, Result, Ok, Err}
use Rattle.std.proofs.Common.{◌≡◌, ◌∙◌, arith, refl, sym, IsTrue, inl, inr}
use Rattle.age_error.specs.Refusals.{IsDevice}
use Rattle.age_error.specs.declared.io.Error.{Error}
use Rattle.age_error.specs.declared.io.SeekFrom.{SeekFrom}
use Rattle.age_io.specs.declared.traits.Read.{Ghosts}
use Rattle.age_io.specs.Reading.{Reads, GivesInAll, AddsNoReason, TriedAgain}
use Rattle.age_io.specs.Cursor.{Seeks}
use Rattle.age_io.specs.Keeping.{SameReader, KeepsReader, OrEarly, OrSeek}
use Rattle.age_io.proofs.Retrying.{interruption-device}

module _ {R : Type 0} (read : Ghosts R) where
  pub same-self : (r : R) → SameReader read r r
  same-self r = record { tells = refl; steady = refl; faults = omega arith; content = λ _. refl }

  -- two steps are one
  pub same-later : (a b c : R) → SameReader read a b → SameReader read b c → SameReader read a c
  same-later a b c first second =
      record {
        tells = second.tells ∙ first.tells;
        steady = second.steady ∙ first.steady;
        faults = omega (arith, first.faults, second.faults);
        content = λ told. second.content (first.tells ∙ told) ∙ first.content told;
      }

  pub same-read : {may : R → Error → Type 0} {buf : List ℕ} {result : Result ℕ Error} (a b : R) →
      Reads read.tells read.steady read.content read.place read.rest read.faults may a b buf result → SameReader read a b
  same-read a b reads =
      record { tells = reads.same_tells; steady = reads.same_steady; faults = reads.no_fewer_faults; content = reads.same_content }

  pub same-sought : {may : R → Error → Type 0} {seek_refuses : Error → Type 0} {to : SeekFrom} {result : Result ℕ Error} (a b : R) →
      Seeks read.tells read.steady read.content read.place read.rest read.faults may seek_refuses a b to result → SameReader read a b
  same-sought a b seeks =
      record { tells = seeks.same_tells; steady = seeks.same_steady; faults = seeks.no_fewer_faults; content = seeks.same_content }

  pub same-given : {may : R → Error → Type 0} {got : List ℕ} (a b : R) →
      GivesInAll read.tells read.steady read.content read.place read.rest read.faults may a b got → SameReader read a b
  same-given a b gives =
      record { tells = gives.same_tells; steady = gives.same_steady; faults = gives.no_fewer_faults; content = gives.same_content }

  module _ (may : R → Error → Type 0) where
    -- a call that succeeded
    pub keeps-done : {T : Type 0} {x : T} (a b : R) → SameReader read a b → AddsNoReason (TriedAgain read.refuses) a b →
        KeepsReader read may a b (Ok x)
    keeps-done a b same narrows = record { same = same; device = tt; patient = tt; why = tt; narrows = narrows }

    -- a refusal that isn't the device's
    pub keeps-refused : {T : Type 0} (a b : R) (e : Error) → SameReader read a b → (IsDevice e → ⊥) → may a e
        → KeepsReader {T = T} read may a b (Err e)
    keeps-refused a b e same other why =
        record { same = same; device = λ is. absurd (other is); patient = λ is. other (interruption-device e is); why = why; narrows = tt }

    -- a step, and then a call
    pub keeps-later : {T : Type 0} (result : Result T Error) (a b c : R) → SameReader read a b → AddsNoReason (TriedAgain read.refuses) a b →
        AddsNoReason may a b → KeepsReader read may b c result → KeepsReader read may a c result
    keeps-later (Ok x) a b c first narrows fewer second =
        keeps-done a c (same-later a b c first second.same) (λ e h. narrows e (second.narrows e h))
    keeps-later (Err e) a b c first narrows fewer second =
        record {
          same = same-later a b c first second.same;
          device = λ is. omega (arith, first.faults, second.device is);
          patient = second.patient;
          why = fewer e second.why;
          narrows = tt;
        }

    -- a call that may refuse with more
    pub keeps-more : {T : Type 0} (more : R → Error → Type 0) (result : Result T Error) (a b : R) → ((e : Error) → may a e → more a e) →
        KeepsReader read may a b result → KeepsReader read more a b result
    keeps-more more (Ok x) a b wider k = record { same = k.same; device = tt; patient = tt; why = tt; narrows = k.narrows }
    keeps-more more (Err e) a b wider k = record { same = k.same; device = k.device; patient = k.patient; why = wider e k.why; narrows = tt }

-- what a read of all bytes may refuse with in a state that adds no reason, it may in the one before
pub early-narrows : {R : Type 0} (read : Ghosts R) (a b : R) → read.tells b ≡ read.tells a →
    (IsTrue (read.tells a) → (read.rest b).ends_well ≡ (read.rest a).ends_well) → AddsNoReason (TriedAgain read.refuses) a b →
    AddsNoReason (OrEarly read) a b
early-narrows read a b tells end fewer e h = elim h [
  | inl early ↦ inl (early.0, λ told. sym (end told) ∙ early.1 (tells ∙ told))
  | inr more ↦ inr (fewer e more)
]

-- what a seek may refuse with in a state that adds no reason, it may in the one before
pub seek-narrows : {R : Type 0} (seek_refuses : Error → Type 0) (refuses : R → Error → Type 0) (a b : R) → AddsNoReason refuses a b →
    AddsNoReason (OrSeek seek_refuses refuses) a b
seek-narrows seek_refuses refuses a b fewer e h = elim h [ inl is ↦ inl is | inr more ↦ inr (fewer e more) ]
