use Rattle.std.proofs.Common.{◌≡◌}
use Rattle.scrypt.specs.Salsa.{double_rounds}
use Rattle.scrypt.proofs.salsa.four_double_rounds.Given as goal

abbrev pub invariant-rounds : goal.invariant-rounds
invariant-rounds l = l.x ≡ double_rounds l._round l.fn.x
