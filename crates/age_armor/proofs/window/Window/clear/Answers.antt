use Rattle.std.proofs.Common.{refl}
use Rattle.age_armor.specs.Windows.{held_in}
use Rattle.age_armor.proofs.window.Window.clear.Goals as goal

pub returns : goal.returns
unfolding held_in
returns c = refl
