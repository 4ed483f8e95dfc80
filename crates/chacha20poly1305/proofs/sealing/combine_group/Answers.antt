use Rattle.std.proofs.Common.{◌+◌, ◌-◌, ◌*◌, arith}
use Rattle.std.proofs.lemmas.Slice.{take-put_mid_below}
use Rattle.chacha20.proofs.Streams.{blocks_more, length-encrypted_to}
use Rattle.chacha20poly1305.proofs.sealing.combine_group.Goals as goal

pub returns-clause-front : goal.returns-clause-front
returns-clause-front c =
    let n = c.args.n in
    take-put_mid_below (512 * n) (512 * n + 512 - 512 * n) c.args.bytes.now c.apply_blocks.new.bytes (512 * n) (omega arith)
    (omega (arith, c.requires))

pub returns-clause-encrypted : goal.returns-clause-encrypted
returns-clause-encrypted c = λ key nonce text done so_far.
    let n = c.args.n in
    let long = length-encrypted_to key 1 nonce 0 text c.args.bytes.now (512 * n) so_far in
    blocks_more key 1 nonce text c.args.bytes.now _ (512 * n) (512 * n + 512 - 512 * n) (512 * (n + 1)) (omega (arith, long, c.requires))
    (omega arith) (c.apply_blocks.ensures.encrypts key 1 nonce n done) so_far
