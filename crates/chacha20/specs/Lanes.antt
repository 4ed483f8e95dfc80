-- Eight states side by side: a word is a vector then, with one lane for each state.
use Rattle.std.specs.Prelude.{ℕ, List, map, slice_index}

-- the state in lane j
abbrev pub lane : ℕ → List (List ℕ) → List ℕ
lane j states = map (λ words. slice_index words j) states
