use Rattle.age_devices.proofs.Scripted.{steps_in_turn}
use Rattle.age_devices.proofs.script.Script.new.Goals as goal

pub returns : goal.returns
returns c i = steps_in_turn c.args.steps.now c.args.most i
