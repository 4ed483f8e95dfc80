use Rattle.chacha20.proofs.Sides.{shifts_rotate}
use Rattle.chacha20.proofs.rounds.xor_rotate.Goals as goal

pub returns : goal.returns
returns c = shifts_rotate c.args.d c.args.a c.args.n c.requires.0 c.requires.1 c.fits-d.0 c.fits-a.0
