use Rattle.std.proofs.Common.{◌≡◌, ◌+◌, ◌-◌, ◌*◌, ◌/◌, length, take}
use Rattle.chacha20.specs.Encryption.{chacha20_encrypt}
use Rattle.poly1305.specs.Given.{WasGiven}
use Rattle.poly1305.specs.Steps.{IsUnbegun}
use Rattle.chacha20poly1305.specs.Aead.{one_time_key}
use Rattle.chacha20poly1305.proofs.sealing.seal_long.Given as goal

-- the first group and the pieces so far are encrypted, and the tag has all groups but the last
abbrev pub invariant-pieces : goal.invariant-pieces
invariant-pieces l =
    (l.bytes.items ≡ chacha20_encrypt l.fn.key 1 l.fn.nonce (take (512 + 4096 * l.n) l.fn.plain))
    × IsUnbegun l.state
    × WasGiven l.state (one_time_key l.fn.key l.fn.nonce) (take (512 * (length l.bytes.items / 512 - 1)) l.bytes.items)
