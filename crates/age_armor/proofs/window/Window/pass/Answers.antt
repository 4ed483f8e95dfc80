use Rattle.std.proofs.Common.{arith, drop-drop, sym, take}
use Rattle.age_armor.specs.Windows.{held_in}
use Rattle.age_armor.proofs.Windows.{held_size}
use Rattle.age_armor.proofs.window.Window.pass.Goals as goal

pub overflow_add-self : goal.overflow_add-self
overflow_add-self c = let window = c.args.self.now in omega (arith, c.requires, held_size window, window.order, window.within)

pub invariant_of-self : goal.invariant_of-self
invariant_of-self c =
    let window = c.args.self.now in
    record { room = window.room; order = omega (arith, c.requires, held_size window, window.order); within = window.within }

pub returns : goal.returns
unfolding held_in
returns c = sym (drop-drop c.args.amount c.args.self.now.given (take c.args.self.now.filled c.args.self.now.bytes))
