use Rattle.std.proofs.Common.{rules}
use Rattle.age_armor.proofs.writer.ArmoredWriter.finish.Goals as goal

pub returns : goal.returns
returns g c = record {
  ok = λ told start format bytes first made took. rw c.into_inner.ensures (c.in_ok-close.ensures.ok told start format bytes first made took);
  binary = search rules;
  same_tells = search rules;
  no_fewer_faults = search rules;
  narrows = search rules;
  failed = search rules;
  why = search rules;
  patient = search rules;
}
