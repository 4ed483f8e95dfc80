use Rattle.std.proofs.Common.{ap, refl, arith, length-set}
use Rattle.curve25519.specs.Encoding.{encode_little_endian, encode_u_coordinate}
use Rattle.x25519.specs.Elements.{value}
use Rattle.x25519.proofs.ByteLoops.{encoded_more, encoded_all}
use Rattle.x25519.proofs.encoding.encode_u_coordinate.Goals as goal

pub bytes-init : goal.bytes-init
bytes-init c = (refl, ap (encode_little_endian 32) c.canonical-rest.ensures)

pub bytes-preserved : goal.bytes-preserved
bytes-preserved c =
    let r = c.bytes.rest in
    let len = c.bytes.invariant.0 in (
      simp length-set len,
      encoded_more c.bytes.bytes (encode_u_coordinate (value c.args.u)) c.bytes.i r.limb0 r.limb1 r.limb2 r.limb3 r.limb4
          (value c.without_low_byte-rest.result) c.bytes-test.true (omega arith) c.without_low_byte-rest.ensures c.bytes.invariant.1,
    )

pub returns : goal.returns
returns c =
    let len = c.bytes.invariant.0 in
    encoded_all c.bytes.bytes (encode_u_coordinate (value c.args.u)) c.bytes.i (value c.bytes.rest) (omega arith) len c.bytes.invariant.1
