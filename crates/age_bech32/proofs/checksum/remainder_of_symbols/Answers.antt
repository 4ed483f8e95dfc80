use Rattle.std.proofs.Common.{◌≡◌, ◌+◌, ◌^◌, ◌<◌, ◌≤◌, ◌∙◌, ap, sym, subst, drop, get_or, length, arith}
use Rattle.std.proofs.lemmas.List.Elements.{All-more}
use Rattle.age_bech32.specs.Symbols.{value_of, values_of, AreSymbols}
use Rattle.age_bech32.specs.Remainder.{step, remainder_after}
use Rattle.age_bech32.proofs.Lists.{whole}
use Rattle.age_bech32.proofs.Spelling.{values-size, value-at}
use Rattle.age_bech32.proofs.Remainders.{after-step, after-end}
use Rattle.age_bech32.proofs.checksum.remainder_of_symbols.Goals as goal

pub returns-in-None : goal.returns-in-None
returns-in-None c = λ are. let lt = are c.loop-symbol.symbol-index 0 c.loop-symbol-test.true in let out = c.in-None.ensures in omega arith

pub loop-symbol-preserved : goal.loop-symbol-preserved
loop-symbol-preserved c =
    let xs = values_of c.args.symbols.now in
    let i = c.loop-symbol.symbol-index in
    let within : i < length xs = subst (λ n. i < n) (sym (values-size c.args.symbols.now)) c.loop-symbol-test.true in
    let is : c.in-Some.value ≡ value_of (get_or c.args.symbols.now i 0) = c.in-Some.ensures.1 in
    let value : c.in-Some.value ≡ get_or xs i 0 = is ∙ sym (value-at c.args.symbols.now i c.loop-symbol-test.true) in
    record {
      below = c.step-sum.ensures.bound;
      are = All-more (λ b. value_of b < 2 ^ 5) c.args.symbols.now i 0 c.loop-symbol-test.true c.loop-symbol.invariant.are
          (subst (λ v. v < 2 ^ 5) is c.in-Some.ensures.0);
      left = ap (λ x. remainder_after x (drop (i + 1) xs)) (c.step-sum.ensures.value ∙ ap (step c.loop-symbol.sum) value)
          ∙ after-step c.loop-symbol.sum xs i within ∙ c.loop-symbol.invariant.left;
    }

pub returns : goal.returns
returns c =
    let end : length (values_of c.args.symbols.now) ≤ c.loop-symbol.symbol-index =
    subst (λ n. n ≤ c.loop-symbol.symbol-index) (sym (values-size c.args.symbols.now)) c.loop-symbol-test.false in (
      subst AreSymbols (whole c.args.symbols.now c.loop-symbol.symbol-index c.loop-symbol-test.false) c.loop-symbol.invariant.are,
      sym (after-end c.loop-symbol.sum (values_of c.args.symbols.now) c.loop-symbol.symbol-index end) ∙ c.loop-symbol.invariant.left,
    )
