use Rattle.age_v1.proofs.Cuts.{cut_slice_min}
use Rattle.test_support.proofs.whole.chunk_at.Goals as goal

pub returns : goal.returns
returns c = let m = c.min.ensures in cut_slice_min 65552 c.args.i c.min.result c.args.sealed.now m
