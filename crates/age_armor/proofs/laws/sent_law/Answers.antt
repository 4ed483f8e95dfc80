use Rattle.age_armor.proofs.Sent.{sends-front_of_text, sends-text}
use Rattle.age_armor.proofs.laws.sent_law.Goals as goal

pub returns-clause-given : goal.returns-clause-given
returns-clause-given g c = sends-text g.W.Write.appended g.met.W.Write.joins

pub returns-clause-sent : goal.returns-clause-sent
returns-clause-sent g c = sends-front_of_text g.W.Write.appended g.met.W.Write.joins
