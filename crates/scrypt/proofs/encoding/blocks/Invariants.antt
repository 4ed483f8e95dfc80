use Rattle.std.proofs.Common.{◌≡◌, length, take}
use Rattle.scrypt.specs.Encoding.{blocks}
use Rattle.scrypt.proofs.encoding.blocks.Given as goal

-- the blocks so far are read
abbrev pub invariant-places : goal.invariant-places
invariant-places l = (length l.b ≡ 16) × (take l.i l.b ≡ blocks l.bytes l.i)
