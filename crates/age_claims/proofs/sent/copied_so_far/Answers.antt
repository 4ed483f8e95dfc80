use Rattle.age_claims.proofs.BegunFiles.{has-begun}
use Rattle.age_claims.proofs.sent.copied_so_far.Goals as goal

pub returns : goal.returns
returns g c = λ reader_told told.
    has-begun g.S.Suite.seal_of g.W.Write.appended g.met.W.Write.joins c.args.writer.now c.copy_all.new.writer (g.R.Read.rest c.args.reader.now).bytes
    c.sent_law.ensures.calls (c.copy_all.ensures.front reader_told told)
