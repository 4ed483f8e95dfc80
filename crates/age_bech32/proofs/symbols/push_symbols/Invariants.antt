use Rattle.std.proofs.Common.{◌≡◌, ◌++◌, take, map, string_bytes}
use Rattle.age_bech32.specs.Symbols.{symbol_in}
use Rattle.age_bech32.proofs.symbols.push_symbols.Given as goal

abbrev pub invariant-loop-value : goal.invariant-loop-value
invariant-loop-value l = string_bytes l.text ≡ string_bytes l.initial.text ++ map (symbol_in l.upper) (take l.value-index l.values)
