use Rattle.std.proofs.Common.{◌∙◌, get_or, arith, ap}
use Rattle.std.proofs.Math.ListN.{set}
use Rattle.std.proofs.lemmas.Grind.{common_steps}
use Rattle.std.proofs.lemmas.List.Edits.{map_over_more}
use Rattle.age_bech32.specs.Symbols.{symbol_in}
use Rattle.age_bech32.proofs.symbols.write_symbols.Goals as goal

pub loop-value-preserved : goal.loop-value-preserved
loop-value-preserved c =
    let value = get_or c.loop-value.values c.loop-value.value-index 0 in
    ap (λ s. set c.loop-value.values c.loop-value.value-index s) c.symbol_in.ensures.symbol
    ∙ map_over_more (symbol_in c.args.upper) c.args.values.now c.loop-value.values c.loop-value.value-index value
    c.loop-value-test.true c.loop-value.invariant (grind (arith, common_steps))
