use Rattle.age_devices.proofs.Scripted.{interrupted_before, moves_then, then_again}
use Rattle.age_devices.proofs.script.Script.interrupted.Goals as goal

pub returns : goal.returns
returns c = record {
  interruptions = λ i below. interrupted_before c.args.times c.args.times c.args.most i below;
  call = moves_then c.args.times c.args.times c.args.most;
  again = λ i. then_again c.args.times c.args.times c.args.most i;
}
