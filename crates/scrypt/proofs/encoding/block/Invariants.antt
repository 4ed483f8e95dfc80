use Rattle.std.proofs.Common.{◌≡◌, length, take}
use Rattle.scrypt.specs.Encoding.{words}
use Rattle.scrypt.proofs.encoding.block.Given as goal

-- the words so far are read
abbrev pub invariant-places : goal.invariant-places
invariant-places l = (length l.x ≡ 16) × (take l.i l.x ≡ words l.bytes l.i)
