use Rattle.std.proofs.Common.{ap}
use Rattle.age_bech32.specs.Symbols.{symbol}
use Rattle.age_bech32.proofs.symbols.symbol_of.Goals as goal

pub returns : goal.returns
unfolding symbol
returns c = ap symbol c.from.ensures
