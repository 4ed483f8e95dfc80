-- Words as one number, of which a power of two leaves the low ones.
use Rattle.std.proofs.Common.{◌≡◌, ℕ, ◌+◌, ◌-◌, ◌*◌, ◌%◌, ◌^◌, ◌<◌, ◌≤◌, List, [], ◌∷◌, length, get_or, sym, ap, arith, ◌∙◌, mul_assoc}
use Rattle.std.proofs.Math.Nat.{add-mul-mod_self_left}
use Rattle.std.proofs.lemmas.Nat.{pow-add}
use Rattle.scrypt.specs.RomMix.{number}

-- the two low words tell a number modulo a power of two up to 2 ^ 64
pub number-modulo : (words : List ℕ) (k : ℕ) → 2 ≤ length words → k < 64
    → (get_or words 0 0 + 2 ^ 32 * get_or words 1 0) % 2 ^ k ≡ number words % 2 ^ k
number-modulo [] k long below = absurd (omega arith)
number-modulo (low ∷ []) k long below = absurd (omega arith)
number-modulo (low ∷ high ∷ words) k long below =
    let rest = number words in
    let parts : k + (64 - k) ≡ 64 = omega arith in
    let power : 2 ^ k * 2 ^ (64 - k) ≡ 2 ^ 64 = sym (pow-add 2 k (64 - k)) ∙ ap (λ n. 2 ^ n) parts in
    let higher : 2 ^ k * (2 ^ (64 - k) * rest) ≡ 2 ^ 64 * rest = sym (mul_assoc (2 ^ k) (2 ^ (64 - k)) rest) ∙ ap (λ n. n * rest) power in
    let whole : low + 2 ^ 32 * (high + 2 ^ 32 * rest) ≡ low + 2 ^ 32 * high + 2 ^ k * (2 ^ (64 - k) * rest) = omega (arith, higher) in
    sym (ap (λ n. n % 2 ^ k) whole ∙ add-mul-mod_self_left (low + 2 ^ 32 * high) (2 ^ k) (2 ^ (64 - k) * rest))
