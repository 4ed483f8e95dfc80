use Rattle.std.proofs.Common.{◌∙◌, ap, arith, take, length}
use Rattle.age_slices.proofs.OnePiece.{full_is, left_is}
use Rattle.age_slices.proofs.reading.chunk_at.Goals as goal

pub returns-then-rest-lt-CHUNK : goal.returns-then-rest-lt-CHUNK
returns-then-rest-lt-CHUNK c =
    c.behind-rest.ensures ∙ left_is c.args.number c.args.sealed.now (omega (arith, ap length c.behind-rest.ensures))

pub returns-else-rest-lt-CHUNK : goal.returns-else-rest-lt-CHUNK
returns-else-rest-lt-CHUNK c = ap (take 65552) c.behind-rest.ensures ∙ full_is c.args.number c.args.sealed.now
