use Rattle.std.proofs.Common.{◌≡◌, ◌-◌, ◌++◌, take, length}
use Rattle.curve25519.specs.Encoding.{encode_little_endian, encode_u_coordinate}
use Rattle.x25519.specs.Elements.{value}
use Rattle.x25519.proofs.encoding.encode_u_coordinate.Given as goal

abbrev pub invariant-bytes : goal.invariant-bytes
invariant-bytes l = (length l.bytes ≡ 32)
    × (take l.i l.bytes ++ encode_little_endian (32 - l.i) (value l.rest) ≡ encode_u_coordinate (value l.fn.u))
