use Rattle.std.proofs.Common.{◌≡◌, ◌+◌, ◌*◌, ◌<◌, take}
use Rattle.age_bech32.proofs.Regrouping.{Regrouping}
use Rattle.age_bech32.proofs.groups.groups_into.Given as goal

abbrev pub invariant-loop-byte : goal.invariant-loop-byte
invariant-loop-byte l = record {
  few : l.count < 5;
  placed : 5 * l.at + l.count ≡ 8 * l.byte-index;
  state : Regrouping 8 5 l.bytes (take l.at l.groups) l.byte-index l.count l.held;
}
