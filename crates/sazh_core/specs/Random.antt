-- What is drawn from a source of random bytes.
use Rattle.std.specs.Prelude.{◌≡◌, ◌⊎◌, ℕ, List, Option, Some, None, Result, MatchResult, length}
use Rattle.sazh_core.specs.declared.error.RandomError.{RandomError}
use Rattle.sazh_core.specs.declared.error.RandomError.TheVariants.{NoRandom, OutOfMemory}

-- The source was asked for so many bytes and gave these, which are so many.
abbrev pub GaveRandom : {B : Type 0} → (B → ℕ → Option (List ℕ) → B → Type 0) → B → ℕ → B → List ℕ → Type 0
GaveRandom gives before count after bytes = gives before count (Some bytes) after × (length bytes ≡ count)

-- Why it gave none: it refused, or memory for them was refused before it was asked.
abbrev pub GaveNone : {B : Type 0} → (B → ℕ → Option (List ℕ) → B → Type 0) → B → ℕ → B → RandomError → Type 0
GaveNone gives before count after e = ((e ≡ NoRandom) × gives before count None after) ⊎ ((e ≡ OutOfMemory) × (after ≡ before))

-- what comes of asking a source for so many bytes
abbrev pub Draws : {B : Type 0} → (B → ℕ → Option (List ℕ) → B → Type 0) → B → ℕ → B → Result (List ℕ) RandomError → Type 0
Draws gives before count after result = MatchResult result (GaveRandom gives before count after) (GaveNone gives before count after)
