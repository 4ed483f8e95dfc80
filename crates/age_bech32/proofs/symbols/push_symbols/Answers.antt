use Rattle.std.proofs.Common.{◌<◌, ◌++◌, ◌∙◌, ap, arith, string_bytes}
use Rattle.age_bech32.specs.Symbols.{symbol_in}
use Rattle.age_bech32.proofs.Spelling.{written_more}
use Rattle.age_bech32.proofs.symbols.push_symbols.Goals as goal

pub loop-value-preserved : goal.loop-value-preserved
loop-value-preserved c =
    let small : c.from.result < 128 = omega (arith, c.symbol_in.ensures.ascii, c.from.ensures) in
    written_more (symbol_in c.args.upper) (string_bytes c.args.text.now) (string_bytes c.loop-value.text)
    (string_bytes c.push.new.self) c.args.values.now
    c.loop-value.value-index c.from.result c.loop-value-test.true c.loop-value.invariant (c.from.ensures ∙ c.symbol_in.ensures.symbol)
    (c.in_ok-push.ensures.bytes ∙ ap (λ t. string_bytes c.loop-value.text ++ t) (c.push.ensures.ascii small))
