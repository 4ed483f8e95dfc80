use Rattle.std.proofs.Common.{◌≡◌, ◌<◌, ◌^◌, take, drop}
use Rattle.age_bech32.specs.Symbols.{AreSymbols, values_of}
use Rattle.age_bech32.specs.Remainder.{remainder_after}
use Rattle.age_bech32.proofs.checksum.remainder_of_symbols.Given as goal

abbrev pub invariant-loop-symbol : goal.invariant-loop-symbol
invariant-loop-symbol l = record {
  below : l.sum < 2 ^ 30;
  are : AreSymbols (take l.symbol-index l.symbols);
  left : remainder_after l.sum (drop l.symbol-index (values_of l.symbols)) ≡ remainder_after l.fn.start (values_of l.symbols);
}
