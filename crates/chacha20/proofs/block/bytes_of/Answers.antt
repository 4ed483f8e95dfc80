use Rattle.chacha20.proofs.Sides.{narrower}
use Rattle.chacha20.proofs.block.bytes_of.Goals as goal

pub returns : goal.returns
returns c i h = narrower c.args.words c.fits-words.1 i h
