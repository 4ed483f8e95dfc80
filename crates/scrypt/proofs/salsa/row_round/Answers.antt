use Rattle.std.proofs.Common.{refl}
use Rattle.scrypt.specs.Salsa.{row_round}
use Rattle.scrypt.proofs.salsa.row_round.Goals as goal

pub returns : goal.returns
unfolding row_round
returns c =
    rw (
      c.quarter_round_on-4.ensures,
      c.quarter_round_on-3.ensures,
      c.quarter_round_on-2.ensures,
      c.quarter_round_on.ensures,
    ) refl
