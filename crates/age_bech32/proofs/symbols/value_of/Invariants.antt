use Rattle.std.proofs.Common.{◌≢◌, ℕ, ◌<◌}
use Rattle.age_bech32.specs.Symbols.{symbol}
use Rattle.age_bech32.proofs.symbols.value_of.Given as goal

abbrev pub invariant-loop-value : goal.invariant-loop-value
invariant-loop-value l = (k : ℕ) → k < l.value → l.lower ≢ symbol k
