use Rattle.std.proofs.Common.{arith, rules}
use Rattle.age_identity.proofs.Waiting.{waits_ended}
use Rattle.age_identity.proofs.reading.read_some.Goals as goal

pub returns-in-loop-of-retried-clause-inner : goal.returns-in-loop-of-retried-clause-inner
returns-in-loop-of-retried-clause-inner g c = λ within.
    let given = c.read.ensures.inner within (omega (arith, c.requires.some, c.loop-of-retried.auto.buf)) in
    record {
      part = given.part;
      some = given.some;
      same = given.same;
      reads = waits_ended g.R.Read c.args.reader.now.inner c.loop-of-retried.reader.inner c.read.new.self.inner c.loop-of-retried._try
          c.loop-of-retried.invariant.calls_made given.part c.read.result (search rules) given.reads;
    }
