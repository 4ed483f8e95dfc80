use Rattle.chacha20.proofs.Sides.{bytes_rotate}
use Rattle.chacha20.proofs.rounds.xor_rotate_by_a_byte.Goals as goal

pub returns : goal.returns
returns c = bytes_rotate c.args.d c.args.a c.fits-d.0 c.fits-a.0 c.fits-d.1 c.fits-a.1
