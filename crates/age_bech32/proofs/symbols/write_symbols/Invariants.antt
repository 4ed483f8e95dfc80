use Rattle.std.proofs.Common.{◌≡◌, ◌++◌, take, drop, map}
use Rattle.age_bech32.specs.Symbols.{symbol_in}
use Rattle.age_bech32.proofs.symbols.write_symbols.Given as goal

-- the values so far are exchanged, the others are as they were
abbrev pub invariant-loop-value : goal.invariant-loop-value
invariant-loop-value l = l.values ≡ map (symbol_in l.upper) (take l.value-index l.initial.values) ++ drop l.value-index l.initial.values
