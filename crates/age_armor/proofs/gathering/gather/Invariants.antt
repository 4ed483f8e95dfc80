use Rattle.std.proofs.Common.{◌-◌, ◌≡◌, ◌*◌, ◌≤◌, List, ℕ, length, take}
use Rattle.age_base64.specs.Base64.{padded_columns}
use Rattle.age_v1.specs.ArmorFullLines.{full_lines}
use Rattle.age_armor.proofs.gathering.gather.Given as goal

abbrev pub invariant-lines : goal.invariant-lines
invariant-lines l = record {
  most : l.count ≤ l.most;
  shown : 65 * l.count ≤ length l.front;
  lines : (bytes : List ℕ) → length bytes ≡ 48 * l.count → take (64 * l.count) l.columns ≡ padded_columns bytes
      → take (65 * l.count) l.front ≡ full_lines l.count bytes;
}

abbrev pub decreases-lines : goal.decreases-lines
decreases-lines l = l.most - l.count
