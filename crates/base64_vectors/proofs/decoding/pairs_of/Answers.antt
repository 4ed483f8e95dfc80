use Rattle.std.proofs.Common.{w8}
use Rattle.std.proofs.lemmas.Simd.{below_from_Fits}
use Rattle.base64_vectors.proofs.Groups.{pairs_are}
use Rattle.base64_vectors.proofs.decoding.pairs_of.Goals as goal

pub returns : goal.returns
returns c small j h = pairs_are c.args.indices c.fits-indices.0 (below_from_Fits w8 c.args.indices c.fits-indices.1) small j h
