use Rattle.std.proofs.Common.{ap, ◌∙◌}
use Rattle.chacha20.specs.Rounds.{diagonal_round}
use Rattle.chacha20.proofs.rounds.double_round.Goals as goal

pub returns : goal.returns
returns c j h = c.diagonal_round.ensures j h ∙ ap diagonal_round (c.column_round.ensures j h)
