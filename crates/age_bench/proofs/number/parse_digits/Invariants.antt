use Rattle.std.proofs.Common.{◌≡◌, ◌<◌, ◌^◌, length}
use Rattle.std.specs.Option.{option_and_then}
use Rattle.age_bench.specs.Decimal.{digits_after, digits_number, within_64}
use Rattle.age_bench.proofs.number.parse_digits.Given as goal

-- what the text writes is what the rest of it writes after the number so far
abbrev pub invariant-digits : goal.invariant-digits
invariant-digits l = record {
  small : l.number < 2 ^ 64;
  same : digits_number l.text ≡ option_and_then within_64 (digits_after l.number l.rest);
}

abbrev pub decreases-digits : goal.decreases-digits
decreases-digits l = length l.rest
