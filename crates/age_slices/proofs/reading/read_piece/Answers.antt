use Rattle.std.proofs.Common.{◌/◌, ap, sym, arith}
use Rattle.std.specs.Prelude.{nat_eq}
use Rattle.age_slices.proofs.OnePiece.{past_end, reads}
use Rattle.age_slices.proofs.reading.read_piece.Goals as goal

pub returns-then-number-last : goal.returns-then-number-last
returns-then-number-last g c =
    past_end g.S.Suite.seal_of g.S.Suite.opened g.met.S.Suite.cipher c.args.key.now c.known_array.ensures c.args.number c.args.sealed.now
    (omega arith)

pub returns : goal.returns
returns g c =
    reads g.S.Suite.seal_of g.S.Suite.opened g.met.S.Suite.cipher c.args.key.now c.known_array.ensures c.args.number c.args.sealed.now
    (nat_eq c.args.number (c.saturating_sub.result / 65552)) _ c.known_bytes.ensures (omega arith)
    (ap (λ n. nat_eq c.args.number (n / 65552)) (sym c.saturating_sub.ensures)) (rw c.chunk_at.ensures at c.open_chunk.ensures)
