use Rattle.std.proofs.Common.{◌≡◌, ◌*◌, length}
use Rattle.chacha20.specs.Blocks.{IsEncryptedTo}
use Rattle.chacha20.proofs.stream.apply_keystream.Given as goal

-- the bytes of the blocks so far are encrypted
abbrev pub invariant-each : goal.invariant-each
invariant-each l = (length l.bytes ≡ length l.fn.bytes) × IsEncryptedTo l.fn.key l.counter l.fn.nonce 0 l.fn.bytes (512 * l.n) l.bytes
