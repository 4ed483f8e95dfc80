-- A group of thirty-two blocks, four of them a step.
use Rattle.std.proofs.Common.{◌≡◌, ℕ, ◌-◌, ◌*◌, ◌/◌, ◌≤◌, List, ◌++◌, length, take, sym, subst, arith}
use Rattle.std.proofs.lemmas.List.{length-take-le}
use Rattle.poly1305.specs.Groups.{IsScaled}

-- what is taken before a step, counted in blocks and in bytes
module _ (r number i : ℕ) (text group : List ℕ) (within : i ≤ 8) (size : length group ≡ 512) where
  count : 32 - length (take (64 * i) group) / 16 ≡ 32 - 4 * i
  count = omega (arith, within, size, length-take-le (64 * i) group (omega (arith, within, size)))

  place : 64 * i ≡ 16 * (4 * i)
  place = omega arith

  pub by_blocks : IsScaled r (32 - length (take (64 * i) group) / 16) number (text ++ take (64 * i) group)
      → IsScaled r (32 - 4 * i) number (text ++ take (16 * (4 * i)) group)
  by_blocks is = subst (λ (k : ℕ). IsScaled r (32 - 4 * i) number (text ++ take k group)) place
      (subst (λ (n : ℕ). IsScaled r n number (text ++ take (64 * i) group)) count is)

  pub by_bytes : IsScaled r (32 - 4 * i) number (text ++ take (16 * (4 * i)) group)
      → IsScaled r (32 - length (take (64 * i) group) / 16) number (text ++ take (64 * i) group)
  by_bytes is = subst (λ (n : ℕ). IsScaled r n number (text ++ take (64 * i) group)) (sym count)
      (subst (λ (k : ℕ). IsScaled r (32 - 4 * i) number (text ++ take k group)) (sym place) is)
