use Rattle.std.proofs.Common.{◌≡◌, ℕ, ◌+◌, ◌*◌, ◌%◌, ◌^◌, List, length}
use Rattle.chacha20.specs.Blocks.{IsBlocks, IsEncryptedTo}
use Rattle.chacha20.proofs.stream.combine_words.Given as goal

-- the bytes of the blocks so far are encrypted
abbrev pub invariant-places : goal.invariant-places
invariant-places l =
    (length l.bytes ≡ length l.fn.bytes) × ((key : List ℕ) (counter : ℕ) (nonce : List ℕ) (n : ℕ)
    → IsBlocks key ((counter + 8 * n % 2 ^ 32) % 2 ^ 32) nonce l.blocks
    → IsEncryptedTo key counter nonce (512 * n) l.fn.bytes (64 * l.j) l.bytes)
