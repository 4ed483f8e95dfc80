use Rattle.std.proofs.Common.{◌≡◌, ◌+◌, ℕ, List, length}
use Rattle.chacha20.specs.Blocks.{IsEncryptedTo, IsStreamFrom}
use Rattle.chacha20.proofs.stream.combine.Given as goal

-- the bytes so far are encrypted
abbrev pub invariant-whole : goal.invariant-whole
invariant-whole l =
    (length l.bytes ≡ length l.fn.bytes) × ((key : List ℕ) (counter : ℕ) (nonce : List ℕ) (from : ℕ) (text : List ℕ)
    → IsStreamFrom key counter nonce (from + l.at) l.fn.words → IsEncryptedTo key counter nonce from text l.at l.fn.bytes
    → IsEncryptedTo key counter nonce from text (l.at + l.k) l.bytes)

abbrev pub invariant-part : goal.invariant-part
invariant-part l =
    (length l.bytes ≡ length l.fn.bytes) × ((key : List ℕ) (counter : ℕ) (nonce : List ℕ) (from : ℕ) (text : List ℕ)
    → IsStreamFrom key counter nonce (from + l.at) l.fn.words → IsEncryptedTo key counter nonce from text l.at l.fn.bytes
    → IsEncryptedTo key counter nonce from text (l.at + l.k) l.bytes)
