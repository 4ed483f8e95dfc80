use Rattle.x25519.proofs.Selecting.{select-is}
use Rattle.x25519.proofs.arithmetic.select.Goals as goal

pub returns : goal.returns
returns c =
    select-is c.args.swap c.wrapping_neg-mask.result c.args.a c.args.b c.requires c.ranges.a.fits c.ranges.b.fits
    c.wrapping_neg-mask.type_inv c.wrapping_neg-mask.ensures
