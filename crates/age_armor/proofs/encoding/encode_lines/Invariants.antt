use Rattle.std.proofs.Common.{◌≡◌, ◌*◌, take}
use Rattle.age_v1.specs.ArmorFullLines.{full_lines}
use Rattle.age_armor.proofs.encoding.encode_lines.Given as goal

abbrev pub invariant-lines : goal.invariant-lines
invariant-lines l = take (65 * l.number) l.text ≡ full_lines l.number l.bytes
