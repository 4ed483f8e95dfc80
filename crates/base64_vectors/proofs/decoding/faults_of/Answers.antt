use Rattle.std.proofs.Common.{w8}
use Rattle.std.proofs.lemmas.Simd.{below_from_Fits}
use Rattle.base64_vectors.proofs.Faults.{lows_fit, highs_fit, faults_of}
use Rattle.base64_vectors.proofs.decoding.faults_of.Goals as goal

pub looked_up-requires : goal.looked_up-requires
looked_up-requires c = lows_fit 16 c.args.columns c.fits-columns.0

pub looked_up-requires-2 : goal.looked_up-requires-2
looked_up-requires-2 c = highs_fit 16 c.args.columns c.fits-columns.0 (below_from_Fits w8 c.args.columns c.fits-columns.1)

pub returns : goal.returns
returns c = faults_of c.args.columns c.looked_up.result c.looked_up-2.result c.fits-columns.0 c.looked_up.ensures c.looked_up-2.ensures
