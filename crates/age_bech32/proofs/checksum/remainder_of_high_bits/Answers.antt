use Rattle.std.proofs.Common.{◌∙◌, sym, ◌/◌, ◌^◌}
use Rattle.age_bech32.proofs.Remainders.{after-step_lowered, after-end_lowered}
use Rattle.age_bech32.proofs.checksum.remainder_of_high_bits.Goals as goal

pub loop-byte-preserved : goal.loop-byte-preserved
loop-byte-preserved c = record {
  below = c.step-sum.ensures.bound;
  left =
      let taken = after-step_lowered (λ b. b / 2 ^ 5) c.loop-byte.sum c.args.prefix.now c.loop-byte.byte-index c.loop-byte-test.true in
      cc (taken, c.loop-byte.invariant.left);
}

pub returns-clause-value : goal.returns-clause-value
returns-clause-value c = sym (after-end_lowered (λ b. b / 2 ^ 5) c.loop-byte.sum c.args.prefix.now c.loop-byte.byte-index c.loop-byte-test.false)
    ∙ c.loop-byte.invariant.left
