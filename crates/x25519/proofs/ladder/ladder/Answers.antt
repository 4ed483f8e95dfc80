use Rattle.std.proofs.Common.{◌-◌, refl, subst, sym, ◌∙◌, arith}
use Rattle.std.specs.Int.{bit_at}
use Rattle.curve25519.specs.Encoding.{decode_little_endian}
use Rattle.curve25519.specs.X25519.{initial_state, ladder_step}
use Rattle.x25519.specs.States.{Represents}
use Rattle.x25519.proofs.LadderSteps.{ladder_more, ladder_none}
use Rattle.x25519.proofs.ladder.ladder.Goals as goal

pub bits-init : goal.bits-init
bits-init c = λ x_1 hu. (initial_state x_1, c.initial_state-state.ensures x_1 hu, refl)

pub bits-preserved : goal.bits-preserved
bits-preserved c = λ x_1 hu.
    let k = decode_little_endian c.args.scalar.now in
    let i = c.bits.i in
    let held = c.bits.invariant x_1 hu in
    let next = c.ladder_step-state.ensures x_1 held.0 hu held.1 in (
      ladder_step x_1 (bit_at k (254 - i)) held.0,
      subst (λ b. Represents c.ladder_step-state.result (ladder_step x_1 b held.0)) c.scalar_bit-k_t.ensures next,
      ladder_more k x_1 i held.0 c.bits-test.true ∙ held.2,
    )

pub returns : goal.returns
returns c = λ x_1 hu.
    let k = decode_little_endian c.args.scalar.now in
    let held = c.bits.invariant x_1 hu in
    subst (λ s. Represents c.bits.state s) (sym (ladder_none k x_1 c.bits.i held.0 (omega arith)) ∙ held.2) held.1
