use Rattle.std.proofs.Common.{◌≡◌, ◌*◌, length, take}
use Rattle.scrypt.specs.Pbkdf2.{pbkdf2}
use Rattle.scrypt.proofs.pbkdf2_sha256.pbkdf2.Given as goal

-- the blocks so far are written
abbrev pub invariant-places : goal.invariant-places
invariant-places l = (length l.key ≡ 1024) × (take (32 * l.i) l.key ≡ pbkdf2 l.password l.salt l.i)
