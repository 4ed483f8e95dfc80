use Rattle.age_bech32.proofs.Remainders.{of_prefix}
use Rattle.age_bech32.proofs.checksum.remainder_of_prefix.Goals as goal

pub returns-clause-value : goal.returns-clause-value
returns-clause-value c =
    let front = of_prefix c.args.prefix.now in
    cc (front, c.remainder_of_high_bits.ensures.value, c.step-sum.ensures.value, c.remainder_of_low_bits.ensures.value)
