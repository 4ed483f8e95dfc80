use Rattle.std.proofs.Common.{◌≡◌, ◌-◌, ◌%◌, drop}
use Rattle.curve25519.specs.Field.{prime}
use Rattle.curve25519.specs.Encoding.{decode_little_endian}
use Rattle.x25519.specs.Elements.{value}
use Rattle.x25519.proofs.encoding.decode_little_endian.Given as goal

abbrev pub invariant-bytes : goal.invariant-bytes
invariant-bytes l = value l.number % prime ≡ decode_little_endian (drop (32 - l.i) l.bytes) % prime
