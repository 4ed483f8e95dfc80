use Rattle.std.proofs.Common.{◌-◌, ◌%◌, drop, get_or, ap, sym, ◌∙◌, arith}
use Rattle.curve25519.specs.Field.{prime}
use Rattle.curve25519.specs.Encoding.{decode_little_endian}
use Rattle.curve25519.proofs.Congruence.{Congruent, congruent_sum, congruent_product_right}
use Rattle.x25519.specs.Elements.{value}
use Rattle.x25519.proofs.ByteLoops.{decode_none, decoded_more, decoded_all}
use Rattle.x25519.proofs.encoding.decode_little_endian.Goals as goal

pub bytes-init : goal.bytes-init
bytes-init c = ap (λ x. x % prime) (c.small-number.ensures ∙ sym (decode_none c.args.bytes.now 32 (omega arith)))

pub bytes-preserved : goal.bytes-preserved
bytes-preserved c =
    let xs = c.args.bytes.now in
    let i = c.bytes.i in
    let byte : Congruent prime (value c.small-byte.result) (get_or xs (31 - i) 0) = ap (λ x. x % prime) (c.small-byte.ensures ∙ c.from.ensures) in
    let moved = c.small_product-moved.ensures ∙ congruent_product_right prime 256 _ (decode_little_endian (drop (32 - i) xs)) c.bytes.invariant in
    decoded_more xs i (value c.sum-number.result) c.bytes-test.true (omega arith)
    (c.sum-number.ensures ∙ congruent_sum prime _ _ _ _ moved byte)

pub returns : goal.returns
returns c = c.bytes.invariant ∙ ap (λ k. k % prime) (decoded_all c.args.bytes.now c.bytes.i (omega arith))
