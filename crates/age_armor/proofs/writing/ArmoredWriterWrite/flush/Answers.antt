use Rattle.std.proofs.Common.{[], refl, rules}
use Rattle.age_armor.proofs.Flushing.{flushes-armor}
use Rattle.age_armor.proofs.Sent.{failed-given, sends-nothing}
use Rattle.age_armor.proofs.writing.ArmoredWriterWrite.flush.Goals as goal

pub returns-in-Ok-clause-flushes : goal.returns-in-Ok-clause-flushes
returns-in-Ok-clause-flushes g c = let w = g.W.Write in
    flushes-armor w.tells w.faults w.refuses w.appended g.met.W.Write.appends_nothing c.args.self.now _ _
    c.if-self.false c.if-self.false c.if-not-self.false c.if-not-self.false refl c.in-Ok.ensures.flushes

-- it failed, and nothing went out
pub returns-in-Err-clause-flushes : goal.returns-in-Err-clause-flushes
returns-in-Err-clause-flushes g c = record {
  same_tells = search rules;
  no_fewer_faults = search rules;
  device = search rules;
  unspent = search rules;
  why = search rules;
  narrows = search rules;
  interrupted = search rules;
  nothing = λ told. let s = c.args.self.now in
      failed-given g.W.Write.appended s _ [] c.if-self.false refl refl
      (sends-nothing g.W.Write.appended s [] c.flush_retrying.new.writer s.armored (c.in-Err.ensures.flushes.nothing told));
}
