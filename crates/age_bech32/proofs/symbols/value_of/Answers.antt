use Rattle.std.proofs.Common.{◌∙◌, ap, sym, below_more, arith}
use Rattle.age_bech32.specs.Symbols.{symbol}
use Rattle.age_bech32.proofs.Spelling.{no_value, value_is}
use Rattle.age_bech32.proofs.symbols.value_of.Goals as goal

pub returns-then-from-lower : goal.returns-then-from-lower
unfolding symbol
returns-then-from-lower c = (
  omega arith,
  sym (value_is c.args.byte c.loop-value.value (omega arith)
      (sym c.to_ascii_lowercase-lower.ensures.value ∙ sym c.if-from-lower.true ∙ ap symbol c.from.ensures)),
)

pub loop-value-preserved : goal.loop-value-preserved
unfolding symbol
loop-value-preserved c = below_more _ _ c.loop-value.invariant (λ e. c.if-from-lower.false (ap symbol c.from.ensures ∙ sym e))

pub returns : goal.returns
returns c = no_value c.args.byte (λ v lt e. c.loop-value.invariant v (omega arith) (c.to_ascii_lowercase-lower.ensures.value ∙ e))
