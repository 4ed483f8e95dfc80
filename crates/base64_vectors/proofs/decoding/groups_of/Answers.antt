use Rattle.std.specs.Int.{w16}
use Rattle.std.proofs.lemmas.Simd.{below_from_Fits}
use Rattle.base64_vectors.proofs.Groups.{groups_are}
use Rattle.base64_vectors.proofs.decoding.groups_of.Goals as goal

pub returns : goal.returns
returns c small k h = groups_are c.args.pairs c.fits-pairs.0 (below_from_Fits w16 c.args.pairs c.fits-pairs.1) small k h
