use Rattle.std.proofs.Common.{◌≡◌, ◌<◌, ℕ}
use Rattle.chacha20.specs.Rounds.{double_rounds}
use Rattle.chacha20.specs.Lanes.{lane}
use Rattle.chacha20.proofs.block.ten_double_rounds.Given as goal

abbrev pub invariant-rounds : goal.invariant-rounds
invariant-rounds l = (j : ℕ) → j < 8 → lane j l.states ≡ double_rounds l._round (lane j l.fn.before)
