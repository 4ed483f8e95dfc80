use Rattle.std.proofs.Common.{refl}
use Rattle.scrypt.specs.Salsa.{column_round}
use Rattle.scrypt.proofs.salsa.column_round.Goals as goal

pub returns : goal.returns
unfolding column_round
returns c =
    rw (
      c.quarter_round_on-4.ensures,
      c.quarter_round_on-3.ensures,
      c.quarter_round_on-2.ensures,
      c.quarter_round_on.ensures,
    ) refl
