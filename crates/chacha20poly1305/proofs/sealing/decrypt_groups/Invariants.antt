use Rattle.std.proofs.Common.{◌≡◌, ◌*◌, List, ℕ, [], length, take}
use Rattle.chacha20.specs.Blocks.{IsEncryptedTo}
use Rattle.poly1305.specs.Given.{WasGiven}
use Rattle.poly1305.specs.Steps.{ArePowersFor, IsUnbegun}
use Rattle.chacha20poly1305.proofs.sealing.decrypt_groups.Given as goal

-- the groups so far are decrypted, and the tag has them
abbrev pub invariant-groups : goal.invariant-groups
invariant-groups l =
    (length l.bytes ≡ length l.fn.bytes)
    × IsUnbegun l.state
    × (l.fn.bytes ≡ l.fn.ciphertext → IsEncryptedTo l.fn.key 1 l.fn.nonce 0 l.fn.ciphertext (512 * l.n) l.bytes)
    × ((one : List ℕ) → ArePowersFor one l.fn.powers → WasGiven l.fn.state one [] → WasGiven l.state one (take (512 * l.n) l.fn.ciphertext))
