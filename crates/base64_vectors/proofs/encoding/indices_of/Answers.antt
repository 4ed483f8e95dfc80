use Rattle.std.proofs.Common.{w8}
use Rattle.std.proofs.lemmas.Simd.{below_from_Fits}
use Rattle.base64_vectors.proofs.Indices.{indices_are}
use Rattle.base64_vectors.proofs.encoding.indices_of.Goals as goal

pub returns : goal.returns
returns c = indices_are c.args.bytes c.fits-bytes.0 (below_from_Fits w8 c.args.bytes c.fits-bytes.1)
