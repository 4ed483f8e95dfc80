use Rattle.std.proofs.Common.{◌∙◌, arith}
use Rattle.chacha20.proofs.Facts.{block_of_zeros}
use Rattle.chacha20.proofs.stream.chacha20_block.Goals as goal

pub returns : goal.returns
returns c = c.apply_keystream.ensures ∙ block_of_zeros c.args.key.now c.args.counter c.args.nonce.now (omega arith)
