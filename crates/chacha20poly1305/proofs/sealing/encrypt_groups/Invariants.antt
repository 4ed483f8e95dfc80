use Rattle.std.proofs.Common.{◌≡◌, ◌-◌, ◌*◌, List, ℕ, length, take}
use Rattle.chacha20.specs.Blocks.{IsEncryptedTo}
use Rattle.poly1305.specs.Given.{WasGiven}
use Rattle.poly1305.specs.Steps.{ArePowersFor, IsUnbegun}
use Rattle.chacha20poly1305.proofs.sealing.encrypt_groups.Given as goal

-- the groups so far are encrypted, and the tag has all of them but the last
abbrev pub invariant-groups : goal.invariant-groups
invariant-groups l =
    (length l.bytes ≡ length l.fn.bytes)
    × IsUnbegun l.state
    × ((text : List ℕ) → IsEncryptedTo l.fn.key 1 l.fn.nonce 0 text (512 * l.fn.from) l.fn.bytes
    → IsEncryptedTo l.fn.key 1 l.fn.nonce 0 text (512 * l.n) l.bytes)
    × ((one : List ℕ) → ArePowersFor one l.fn.powers → WasGiven l.fn.state one (take (512 * (l.fn.from - 1)) l.fn.bytes)
    → WasGiven l.state one (take (512 * (l.n - 1)) l.bytes))
