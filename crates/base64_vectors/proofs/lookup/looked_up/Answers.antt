use Rattle.std.proofs.Common.{refl, arith, w8}
use Rattle.std.proofs.lemmas.Simd.{SwzOk-from_below}
use Rattle.base64_vectors.proofs.Tables.{looked_up_is}
use Rattle.base64_vectors.proofs.lookup.looked_up.Goals as goal

pub swizzle : goal.swizzle
swizzle c = SwzOk-from_below w8 16 1 16 0 c.args.places refl (omega (arith, c.fits-places.0)) c.requires

pub returns : goal.returns
returns c = looked_up_is c.args.table 0 c.args.places (omega (arith, c.fits-places.0)) c.requires
