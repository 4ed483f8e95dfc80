use Rattle.age_armor.specs.Windows.{held_in}
use Rattle.age_armor.proofs.Windows.{held_mid}
use Rattle.age_armor.proofs.window.Window.as_slice.Goals as goal

pub returns : goal.returns
unfolding held_in
returns c = held_mid c.args.self.now.bytes c.args.self.now.given c.args.self.now.filled c.args.self.now.order
