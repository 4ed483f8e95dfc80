use Rattle.std.proofs.Common.{◌≡◌, ap, ◌∙◌, arith, add-one}
use Rattle.chacha20.specs.Rounds.{double_rounds, double_round}
use Rattle.chacha20.proofs.block.ten_double_rounds.Goals as goal

pub rounds-init : goal.rounds-init
unfolding double_rounds
rounds-init c j h = c.double_round.ensures j h

pub rounds-preserved : goal.rounds-preserved
unfolding double_rounds
rounds-preserved c j h = rw add-one (c.double_round-in-rounds.ensures j h ∙ ap double_round (c.rounds.invariant j h))

pub returns : goal.returns
returns c j h =
    let done : c.rounds._round ≡ 10 = omega arith in
    rw done at (c.rounds.invariant j h)
