use Rattle.std.proofs.Common.{w8}
use Rattle.std.proofs.lemmas.Simd.{below_from_Fits}
use Rattle.base64_vectors.proofs.Faults.{places_fit, indices_of}
use Rattle.base64_vectors.proofs.decoding.indices_at.Goals as goal

pub looked_up-requires : goal.looked_up-requires
looked_up-requires c = places_fit c.args.columns c.fits-columns.0 (below_from_Fits w8 c.args.columns c.fits-columns.1)

pub returns : goal.returns
returns c = indices_of c.args.columns c.looked_up.result c.fits-columns.0 (below_from_Fits w8 c.args.columns c.fits-columns.1) c.looked_up.ensures
