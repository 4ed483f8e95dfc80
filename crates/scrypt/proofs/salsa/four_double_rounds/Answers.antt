use Rattle.std.proofs.Common.{◌≡◌, refl, ap, ◌∙◌, arith, add-one}
use Rattle.scrypt.specs.Salsa.{column_round, row_round, double_rounds}
use Rattle.scrypt.proofs.salsa.four_double_rounds.Goals as goal

pub rounds-init : goal.rounds-init
unfolding double_rounds
rounds-init c = refl

pub rounds-preserved : goal.rounds-preserved
unfolding double_rounds
rounds-preserved c =
    rw add-one (c.row_round.ensures ∙ ap row_round (c.column_round.ensures ∙ ap column_round c.rounds.invariant))

pub returns : goal.returns
returns c =
    let done : c.rounds._round ≡ 4 = omega arith in
    rw done at c.rounds.invariant
