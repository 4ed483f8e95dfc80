-- What an interrupted call says.
use Rattle.std.proofs.Common.{◌≡◌, ℕ, ◌<◌, IsTrue, Result, Ok, Err, IfErr, OnErr, inl, inr, subst}
use Rattle.std.specs.Prelude.{IsErrAnd, ◌⊎◌}
use Rattle.age_io.specs.declared.traits.Read.{Ghosts}
use Rattle.age_io.specs.Keeping.{SameReader}
use Rattle.age_io.specs.Reading.{AddsNoReason, TriedAgain}
use Rattle.age_error.specs.Refusals.{IsDevice, IsInterruption}
use Rattle.age_error.specs.declared.io.Error.{Error}
use Rattle.age_error.specs.declared.io.Error.TheVariants.{Device}
use Rattle.age_error.specs.declared.io.ErrorKind.TheVariants.{Interrupted as interrupted}

pub interruption-device : (e : Error) → IsInterruption e → IsDevice e
interruption-device (Device kind) is = tt
interruption-device _ is = absurd is

-- the device has failed
pub rose-by : {A P : Type 0} (r : Result A Error) → IsErrAnd r IsInterruption → IfErr r (λ e. IsDevice e → P) → P
rose-by (Ok x) is rose = absurd is
rose-by (Err e) is rose = rose (interruption-device e is)

-- what is said of an interruption holds
pub interrupted-by : {A P : Type 0} (r : Result A Error) → IsErrAnd r IsInterruption → IfErr r (λ e. IsInterruption e → P) → P
interrupted-by (Ok x) is h = absurd is
interrupted-by (Err e) is h = h is

-- and so does the reason of it
pub interruption-why : {A : Type 0} (Reason : Error → Type 0) (r : Result A Error) → IsErrAnd r IsInterruption → IfErr r Reason →
    Reason (Device interrupted)
interruption-why Reason (Ok x) is why = absurd is
interruption-why Reason (Err (Device interrupted)) is why = why
interruption-why Reason (Err _) is why = absurd is

-- what holds of a refusal holds
pub refused-by : {A P : Type 0} (r : Result A Error) → IsErrAnd r IsInterruption → OnErr r P → P
refused-by (Ok x) is h = absurd is
refused-by (Err e) is h = h

-- a reader after so many calls, each of which was interrupted
pub record Interrupted {R : Type 0} (read : Ghosts R) (old new : R) (calls : ℕ) : Type 0 where
  pub same : SameReader read old new
  pub rose : 0 < calls → read.faults old < read.faults new
  pub same_place : IsTrue (read.tells old) → read.place new ≡ read.place old
  pub same_rest : IsTrue (read.tells old) → read.rest new ≡ read.rest old
  pub narrows : AddsNoReason read.refuses old new
  pub worn : 0 < calls → read.refuses old (Device interrupted)

module _ {S : Type 0} (refuses : S → Error → Type 0) where
  -- none of these errors is an interruption
  pub tried-patient : (s : S) (e : Error) → TriedAgain refuses s e → IsInterruption e → ⊥
  tried-patient s e h is = elim h [
    | inl plain ↦ plain.0 is
    | inr worn ↦ subst IsInterruption worn.0 is
  ]

  -- two states, where interruptions are tried again
  pub tried-narrows : (a b : S) → AddsNoReason refuses a b → AddsNoReason (TriedAgain refuses) a b
  tried-narrows a b fewer e h = elim h [
    | inl plain ↦ inl (plain.0, fewer e plain.1)
    | inr worn ↦ inr (worn.0, fewer (Device interrupted) worn.1)
  ]

  -- of errors of its own none is an interruption
  pub tried-own : (Own : Error → Type 0) (s : S) (e : Error) → (Own (Device interrupted) → ⊥)
      → TriedAgain (λ r f. Own f ⊎ TriedAgain refuses r f) s e →
      Own e ⊎ TriedAgain refuses s e
  tried-own Own s e patient h = elim h [
    | inl plain ↦ plain.1
    | inr worn ↦ elim worn.1 [ inl own ↦ absurd (patient own) | inr again ↦ absurd (tried-patient s (Device interrupted) again tt) ]
  ]

-- what may be refused with may be tried again
pub tried-more : {S T : Type 0} (first : S → Error → Type 0) (second : T → Error → Type 0) (s : S) (t : T)
    → ((e : Error) → first s e → second t e) → (e : Error) →
    TriedAgain first s e → TriedAgain second t e
tried-more first second s t wider e h = elim h [
  | inl plain ↦ inl (plain.0, wider e plain.1)
  | inr worn ↦ inr (worn.0, wider (Device interrupted) worn.1)
]
