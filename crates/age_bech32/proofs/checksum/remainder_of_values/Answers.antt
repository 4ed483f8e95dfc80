use Rattle.std.proofs.Common.{◌∙◌, ap, drop, sym, ◌+◌}
use Rattle.age_bech32.specs.Remainder.{remainder_after}
use Rattle.age_bech32.proofs.Remainders.{after-step, after-end}
use Rattle.age_bech32.proofs.checksum.remainder_of_values.Goals as goal

pub loop-value-preserved : goal.loop-value-preserved
loop-value-preserved c = record {
  below = c.step-sum.ensures.bound;
  left = ap (λ x. remainder_after x (drop (c.loop-value.value-index + 1) c.args.values.now)) c.step-sum.ensures.value
      ∙ after-step c.loop-value.sum c.args.values.now c.loop-value.value-index c.loop-value-test.true ∙ c.loop-value.invariant.left;
}

pub returns-clause-value : goal.returns-clause-value
returns-clause-value c = sym (after-end c.loop-value.sum c.args.values.now c.loop-value.value-index c.loop-value-test.false)
    ∙ c.loop-value.invariant.left
