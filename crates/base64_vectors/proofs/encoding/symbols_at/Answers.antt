use Rattle.base64_vectors.proofs.Symbols.{ranges_fit, symbols_are}
use Rattle.base64_vectors.proofs.encoding.symbols_at.Goals as goal

pub looked_up-requires : goal.looked_up-requires
looked_up-requires c = ranges_fit c.args.indices c.fits-indices.0 c.requires

pub returns : goal.returns
returns c = symbols_are c.args.indices c.looked_up.result c.fits-indices.0 c.requires c.looked_up.ensures
