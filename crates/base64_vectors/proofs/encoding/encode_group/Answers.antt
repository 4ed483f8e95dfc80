use Rattle.std.proofs.Common.{w8}
use Rattle.std.proofs.lemmas.Simd.{below_from_Fits}
use Rattle.base64_vectors.proofs.Lines.{group_small, group_written}
use Rattle.base64_vectors.proofs.encoding.encode_group.Goals as goal

pub symbols_at-requires : goal.symbols_at-requires
symbols_at-requires c = group_small c.args.bytes c.indices_of.result (below_from_Fits w8 c.args.bytes c.fits-bytes.1) c.indices_of.ensures

pub returns : goal.returns
returns c = group_written c.args.bytes c.args.columns.now c.indices_of.result c.symbols_at.result c.fits-bytes.0 c.requires c.indices_of.ensures
    c.symbols_at.ensures
