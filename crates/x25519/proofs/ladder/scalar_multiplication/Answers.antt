use Rattle.std.proofs.Common.{◌-◌}
use Rattle.curve25519.specs.Field.{prime}
use Rattle.curve25519.specs.Encoding.{decode_little_endian}
use Rattle.curve25519.specs.X25519.{initial_state, ladder, scalar_multiplication}
use Rattle.x25519.proofs.Congruences.{of_product, of_power}
use Rattle.x25519.proofs.LadderSteps.{exchanged_last}
use Rattle.x25519.proofs.ladder.scalar_multiplication.Goals as goal

pub returns : goal.returns
unfolding scalar_multiplication
returns c = λ x_1 hu.
    let defined = ladder (decode_little_endian c.args.scalar.now) x_1 255 (initial_state x_1) in
    let state = c.ladder-state.result in
    let h = c.ladder-state.ensures x_1 hu in
    let x = exchanged_last state.swap defined.swap _ _ _ _ _ h.swap h.x_2 h.x_3 c.conditional_swap.ensures.left in
    let z = exchanged_last state.swap defined.swap _ _ _ _ _ h.swap h.z_2 h.z_3 c.conditional_swap-2.ensures.left in
    let i = of_power _ _ _ (prime - 2) z c.inverse-inverse_of_z_2.ensures in
    of_product _ _ _ _ _ x i c.product.ensures
