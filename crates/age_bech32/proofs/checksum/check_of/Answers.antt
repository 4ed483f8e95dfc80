use Rattle.std.proofs.Common.{◌≡◌, ◌++◌, ◌∙◌, ap, sym, arith, bit_xor}
use Rattle.std.proofs.lemmas.Nat.{xor_lt}
use Rattle.age_bech32.specs.Remainder.{remainder, remainder_after, expanded}
use Rattle.age_bech32.specs.Groups.{digits}
use Rattle.age_bech32.specs.Written.{zeros, check_values}
use Rattle.age_bech32.proofs.Remainders.{after-append, six_is}
use Rattle.age_bech32.proofs.checksum.check_of.Goals as goal

pub returns-clause-check : goal.returns-clause-check
unfolding check_values
returns-clause-check c =
    let front = expanded c.args.prefix.now ++ c.args.values.now in
    let sum : c.remainder_of_values-sum-2.result ≡ remainder (front ++ zeros) =
    c.remainder_of_values-sum-2.ensures.value ∙ ap (λ x. remainder_after x zeros) (c.remainder_of_values-sum.ensures.value
    ∙ ap (λ x. remainder_after x c.args.values.now) c.remainder_of_prefix.ensures.value
    ∙ sym (after-append 1 (expanded c.args.prefix.now) c.args.values.now))
    ∙ sym (after-append 1 front zeros) in
    six_is (bit_xor c.remainder_of_values-sum-2.result 1)
    (xor_lt 30 c.remainder_of_values-sum-2.result 1 c.remainder_of_values-sum-2.ensures.bound (omega arith))
    ∙ ap (λ x. digits 5 6 (bit_xor x 1)) sum
