use Rattle.std.proofs.Common.{◌+◌, ◌*◌, refl, arith}
use Rattle.chacha20.proofs.Streams.{group_more, length-encrypted_to, none_left}
use Rattle.chacha20.proofs.stream.apply_keystream.Goals as goal

pub each-init : goal.each-init
each-init c = (refl, refl)

pub each-preserved : goal.each-preserved
each-preserved c =
    let key = c.args.key.now in
    let nonce = c.args.nonce.now in
    let text = c.args.bytes.now in
    let n = c.each.n in
    let next = group_more key c.args.counter nonce text c.each.bytes c.combine_blocks.new.bytes (512 * n) _ (512 * (n + 1)) (omega arith)
    (omega arith) (omega arith)
    c.combine_blocks.ensures c.each.invariant.1 in
    (length-encrypted_to key c.args.counter nonce 0 text _ (512 * (n + 1)) next, next)

pub returns : goal.returns
returns c =
    none_left c.args.key.now c.args.counter c.args.nonce.now c.args.bytes.now c.each.bytes (512 * c.each.n)
    (omega (arith, c.each.invariant.0)) c.each.invariant.1
