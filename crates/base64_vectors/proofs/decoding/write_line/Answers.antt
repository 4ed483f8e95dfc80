use Rattle.base64_vectors.proofs.Decoded.{line_written}
use Rattle.base64_vectors.proofs.decoding.write_line.Goals as goal

pub returns : goal.returns
returns c = line_written c.args.a c.args.b c.args.c c.args.d c.args.bytes.now c.fits-a.0 c.fits-b.0 c.fits-c.0 c.fits-d.0 c.requires
