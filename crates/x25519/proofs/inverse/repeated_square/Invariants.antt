use Rattle.std.proofs.Common.{◌≡◌, ◌%◌, ◌^◌}
use Rattle.curve25519.specs.Field.{prime, field_power}
use Rattle.x25519.specs.Elements.{value}
use Rattle.x25519.proofs.inverse.repeated_square.Given as goal

abbrev pub invariant-squares : goal.invariant-squares
invariant-squares l = value l.power % prime ≡ field_power (value l.fn.z) (2 ^ l._square)
