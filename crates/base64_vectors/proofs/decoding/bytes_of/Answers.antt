use Rattle.std.proofs.Common.{refl}
use Rattle.std.specs.Int.{w32}
use Rattle.std.proofs.lemmas.Simd.{below_from_Fits}
use Rattle.base64_vectors.proofs.Groups.{bytes_are}
use Rattle.base64_vectors.proofs.decoding.bytes_of.Goals as goal

pub returns-clause-length : goal.returns-clause-length
returns-clause-length c = refl

pub returns-clause-bytes : goal.returns-clause-bytes
returns-clause-bytes c k h = bytes_are c.args.groups (below_from_Fits w32 c.args.groups c.fits-groups.1) k h
