use Rattle.std.proofs.Common.{◌≡◌, ◌*◌, drop}
use Rattle.age_bench.specs.Command.{hex_bytes}
use Rattle.age_bench.proofs.Hex.{prepended}
use Rattle.age_bench.proofs.command.parse_bytes.Given as goal

-- the text writes the bytes so far, and then what the rest of it writes
abbrev pub invariant-loop-i : goal.invariant-loop-i
invariant-loop-i l = hex_bytes l.text ≡ prepended l.bytes.items (hex_bytes (drop (2 * l.i) l.text))
