use Rattle.std.proofs.Common.{refl}
use Rattle.chacha20.specs.Rounds.{column_round}
use Rattle.chacha20.proofs.rounds.column_round.Goals as goal

pub returns : goal.returns
unfolding column_round
returns c j h =
    rw (
      c.quarter_round_on-4.ensures j h,
      c.quarter_round_on-3.ensures j h,
      c.quarter_round_on-2.ensures j h,
      c.quarter_round_on.ensures j h,
    ) refl
