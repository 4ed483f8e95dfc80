use Rattle.std.proofs.Common.{◌≡◌, ◌*◌, length, take}
use Rattle.scrypt.specs.Encoding.{block_bytes}
use Rattle.scrypt.proofs.encoding.block_bytes.Given as goal

-- the words so far are written
abbrev pub invariant-places : goal.invariant-places
invariant-places l = (length l.bytes ≡ 64) × (take (4 * l.i) l.bytes ≡ block_bytes (take l.i l.x))
