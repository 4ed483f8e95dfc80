use Rattle.age_armor.proofs.Refusing.{kept-later}
use Rattle.age_armor.proofs.counted.Counted.take_full.Goals as goal

pub returns-clause-kept : goal.returns-clause-kept
returns-clause-kept g c = kept-later _ _ c.args.self.now.inner c.look_ahead.new.self.inner _ _ _ _ c.in-Ok.ensures.kept c.take_ahead.ensures.kept
