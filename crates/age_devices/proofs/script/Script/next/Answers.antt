use Rattle.std.proofs.Common.{arith}
use Rattle.age_devices.proofs.Scripted.{good_done}
use Rattle.age_devices.proofs.script.Script.next.Goals as goal

pub returns-then-self-gt0-2-clause-later : goal.returns-then-self-gt0-2-clause-later
returns-then-self-gt0-2-clause-later c i =
    good_done c.args.self.now.times c.args.self.now.left c.args.self.now.good c.args.self.now.most i c.args.self.now.steps.now
    (omega (arith, c.if-self-gt0.false)) (omega (arith, c.if-self-gt0-2.true))
