use Rattle.std.proofs.Common.{◌≡◌, ◌^◌, ap, ◌∙◌, arith}
use Rattle.curve25519.specs.Field.{field_power}
use Rattle.x25519.specs.Elements.{value}
use Rattle.x25519.proofs.PowerChain.{no_squares, squares_more}
use Rattle.x25519.proofs.inverse.repeated_square.Goals as goal

pub squares-init : goal.squares-init
squares-init c = no_squares (value c.args.z)

pub squares-preserved : goal.squares-preserved
squares-preserved c =
    squares_more (value c.args.z) (value c.square-power.result) (value c.squares.power) c.squares._square c.squares.invariant c.square-power.ensures

pub returns : goal.returns
returns c =
    let all : c.squares._square ≡ c.args.count = omega arith in
    c.squares.invariant ∙ ap (λ n. field_power (value c.args.z) (2 ^ n)) all
