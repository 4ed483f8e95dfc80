use Rattle.std.proofs.Common.{◌≡◌, ◌*◌, length, take}
use Rattle.scrypt.specs.Encoding.{blocks_bytes}
use Rattle.scrypt.proofs.encoding.blocks_bytes.Given as goal

-- the blocks so far are written
abbrev pub invariant-places : goal.invariant-places
invariant-places l = (length l.bytes ≡ 1024) × (take (64 * l.i) l.bytes ≡ blocks_bytes (take l.i l.b))
