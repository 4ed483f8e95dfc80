use Rattle.std.proofs.Common.{◌≡◌, ◌+◌, ◌*◌, ◌<◌, take}
use Rattle.age_bech32.specs.Symbols.{values_of}
use Rattle.age_bech32.proofs.Regrouping.{Regrouping}
use Rattle.age_bech32.proofs.groups.bytes_into.Given as goal

abbrev pub invariant-loop-symbol : goal.invariant-loop-symbol
invariant-loop-symbol l = record {
  few : l.count < 8;
  placed : 8 * l.at + l.count ≡ 5 * l.symbol-index;
  state : Regrouping 5 8 (values_of l.symbols) (take l.at l.bytes) l.symbol-index l.count l.held;
}
