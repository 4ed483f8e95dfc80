use Rattle.age.specs.CopyingLemmas.{front-written}
use Rattle.age_claims.proofs.BegunFiles.{has-begun}
use Rattle.age_claims.proofs.sent.sent_so_far.Goals as goal

pub returns : goal.returns
returns g c = λ told.
    has-begun g.S.Suite.seal_of g.W.Write.appended g.met.W.Write.joins c.args.writer.now c.write.new.self c.args.bytes.now
    c.sent_law.ensures.calls (front-written _ _ _ _ c.args.writer.now c.write.new.self c.args.bytes.now c.write.result told c.write.ensures.writes)
