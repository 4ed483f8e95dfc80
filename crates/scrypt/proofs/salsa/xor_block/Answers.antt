use Rattle.std.proofs.Common.{arith, bit_xor}
use Rattle.scrypt.proofs.Pairs.{zip2_more, zip2_whole}
use Rattle.scrypt.proofs.salsa.xor_block.Goals as goal

pub words-preserved : goal.words-preserved
words-preserved c = zip2_more bit_xor 0 c.args.x.now c.args.block.now c.words.x c.words.i (omega arith) (omega arith) c.words.invariant

pub returns : goal.returns
returns c = zip2_whole bit_xor c.args.x.now c.args.block.now c.words.x c.words.i (omega arith) (omega arith) c.words.invariant
