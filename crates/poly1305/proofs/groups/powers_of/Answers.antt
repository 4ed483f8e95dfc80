use Rattle.std.proofs.Common.{◌≡◌, ℕ, ◌+◌, ◌-◌, ◌%◌, ◌^◌, ◌<◌, ◌∙◌, refl, ap, arith, length-set}
use Rattle.poly1305.specs.declared.groups.Multiplier.{Multiplier}
use Rattle.poly1305.specs.Mac.{prime}
use Rattle.poly1305.specs.Limbs.{factor_number}
use Rattle.poly1305.specs.Groups.{multiplier_number, IsMultiplier}
use Rattle.poly1305.proofs.Grouping.{first_power, next_power, true_of_last, true_of_next}
use Rattle.poly1305.proofs.groups.powers_of.Goals as goal

pub each-init : goal.each-init
each-init c =
    let r = factor_number c.args.r in
    let first = c.multiplier_of-first.result in
    let is_first : multiplier_number first ≡ r = omega (arith, c.multiplier_of-first.ensures.value) in
    record {
      size = refl;
      high = omega arith;
      value = first_power r _ (omega arith);
      multipliers = true_of_last (λ (k : ℕ) (x : Multiplier). IsMultiplier x) 63 first c.multiplier_of-first.ensures.multiplier;
      powers = true_of_last (λ (k : ℕ) (x : Multiplier). multiplier_number x % prime ≡ r ^ (64 - k) % prime) 63 first
          (first_power r _ is_first);
    }

pub each-preserved : goal.each-preserved
each-preserved c =
    let r = factor_number c.args.r in
    let is = c.each.invariant in
    let i = c.each.i in
    let next = c.multiplier_of.result in
    let is_first : multiplier_number c.multiplier_of-first.result ≡ r = omega (arith, c.multiplier_of-first.ensures.value) in
    let value = next_power r i _ _ _ is_first is.value c.multiplied-power.ensures.value in
    let within : i < 64 = omega arith in
    let place : i + 1 ≡ 64 - (63 - i) = omega arith in
    record {
      size = simp length-set is.size;
      high = c.multiplied-power.ensures.high;
      value = value;
      multipliers = true_of_next (λ (k : ℕ) (x : Multiplier). IsMultiplier x) 63 c.each.powers i next is.size within is.multipliers
          c.multiplier_of.ensures.multiplier;
      powers = true_of_next (λ (k : ℕ) (x : Multiplier). multiplier_number x % prime ≡ r ^ (64 - k) % prime) 63 c.each.powers i next is.size
          within is.powers (ap (λ n. n % prime) c.multiplier_of.ensures.value ∙ value ∙ ap (λ k. r ^ k % prime) place);
    }

pub returns-clause-multipliers : goal.returns-clause-multipliers
returns-clause-multipliers c = λ k x is. c.each.invariant.multipliers k x (omega arith) is

pub returns-clause-powers : goal.returns-clause-powers
returns-clause-powers c = λ k x is. c.each.invariant.powers k x (omega arith) is
