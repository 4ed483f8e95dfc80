use Rattle.std.proofs.Common.{rules, ◌≡◌, ◌∙◌, sym, ap, List, ℕ, None}
use Rattle.std.specs.Option.{option_and_then}
use Rattle.std.proofs.lemmas.List.{nil_from_length}
use Rattle.age_bench.specs.Decimal.{decimal_digit, digits_after, digits_number, within_64}
use Rattle.age_bench.proofs.Numbers.{no_number, digit_more, digits_done}
use Rattle.age_bench.proofs.number.parse_digits.Goals as goal

pub returns-in_err-number : goal.returns-in_err-number
returns-in_err-number c =
    let n = c.digits.number in
    let digit = c.in-Some.digit.now in
    let none : digits_number c.args.text.now ≡ None =
    c.digits.invariant.same ∙ ap (λ (l : List ℕ). option_and_then within_64 (digits_after n l)) c.in-Some.ensures.cases.0
    ∙ no_number n c.in-Some.tail.now (decimal_digit digit) (sym c.in_err-number.ensures.number) in
    search rules

pub digits-preserved : goal.digits-preserved
digits-preserved c =
    let n = c.digits.number in
    let digit = c.in-Some.digit.now in
    record {
      small = c.in_ok-number.ensures.small;
      same = c.digits.invariant.same ∙ ap (λ (l : List ℕ). option_and_then within_64 (digits_after n l)) c.in-Some.ensures.cases.0
          ∙ digit_more n c.in_ok-number.number c.in-Some.tail.now (decimal_digit digit) (sym c.in_ok-number.ensures.number);
    }

pub returns : goal.returns
returns c =
    let n = c.digits.number in
    sym (c.digits.invariant.same ∙ ap (λ (l : List ℕ). option_and_then within_64 (digits_after n l))
    (nil_from_length c.digits.rest.now c.in_default.ensures.cases)
    ∙ digits_done n c.digits.invariant.small)
