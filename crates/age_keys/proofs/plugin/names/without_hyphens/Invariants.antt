use Rattle.std.proofs.Common.{◌≡◌, ◌++◌, ℕ, length, replicate}
use Rattle.age_keys.proofs.plugin.names.without_hyphens.Given as goal

abbrev pub invariant-loop-before : goal.invariant-loop-before
invariant-loop-before l = (count : ℕ) × (l.bytes ≡ l.front ++ replicate count 45)

abbrev pub decreases-loop-before : goal.decreases-loop-before
decreases-loop-before l = length l.front
