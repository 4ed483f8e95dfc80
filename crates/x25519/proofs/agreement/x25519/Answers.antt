use Rattle.std.proofs.Common.{◌%◌, ap, ◌∙◌}
use Rattle.curve25519.specs.Field.{prime}
use Rattle.curve25519.specs.Encoding.{decode_little_endian, decode_u_coordinate, encode_little_endian}
use Rattle.curve25519.specs.X25519.{scalar_multiplication, x25519}
use Rattle.x25519.proofs.agreement.x25519.Goals as goal

pub returns : goal.returns
unfolding x25519
returns c =
    let u = decode_u_coordinate c.args.public.now in
    c.encode_u_coordinate.ensures
    ∙ ap (encode_little_endian 32) (c.scalar_multiplication-product.ensures u c.decode_u_coordinate-u.ensures)
    ∙ ap (λ k. encode_little_endian 32 (scalar_multiplication (decode_little_endian k) u % prime)) c.clamped-scalar.ensures
