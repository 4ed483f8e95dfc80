use Rattle.chacha20.proofs.Sides.{lane-quarter_round_on}
use Rattle.chacha20.proofs.rounds.quarter_round_on.Goals as goal

pub returns : goal.returns
returns c j h = lane-quarter_round_on c.args.states.now c.args.x c.args.y c.args.z c.args.w c.quarter_round.result j (c.quarter_round.ensures j h)
