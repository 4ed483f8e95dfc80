use Rattle.std.proofs.Common.{arith}
use Rattle.age_stream.specs.WritingLemmas.{sent-so_far}
use Rattle.age_stream.proofs.laws.writer_law.Goals as goal

pub returns : goal.returns
returns g c = λ good. let writer = c.args.writer.now in
    sent-so_far g.S.Suite.seal_of g.W.Write.appended writer (omega (arith, writer.one_piece, writer.held.ok.0)) good
