use Rattle.std.proofs.Common.{arith, inr, rules, take}
use Rattle.std.proofs.lemmas.List.{length-take-le}
use Rattle.age_slices.proofs.Pieces.{no_middle}
use Rattle.age_slices.proofs.reading.middle_piece.Goals as goal

pub returns-else-wants_memory : goal.returns-else-wants_memory
returns-else-wants_memory g c =
    inr (
      (omega arith),
      no_middle g.S.Suite.opened c.args.key.now c.args.number (take 65552 c.args.rest.now) c.in-Err.error c.in-Err.ensures
          (c.wants_memory.ensures (search rules)) (length-take-le 65552 c.args.rest.now (omega arith)),
    )
