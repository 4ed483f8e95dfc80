use Rattle.age_stream.proofs.Cached.{held-read}
use Rattle.age_stream.proofs.cache.Cache.bring.Goals as goal

pub returns-clause-kept : goal.returns-clause-kept
returns-clause-kept g c = λ payload kept text.
    c.put.ensures.kept g.S.Suite.opened c.args.key.now payload (c.make_room.ensures.kept g.S.Suite.opened c.args.key.now payload kept)
    (λ _. held-read g.S.Suite.opened c.args.key.now payload c.args.number c.args.text.now c.in_ok-piece.piece.items c.in_ok-piece.last text
    c.in_ok-piece.ensures.is.short c.in_ok-piece.ensures.chunk)

pub returns-then-is_chunk-clause-kept : goal.returns-then-is_chunk-clause-kept
returns-then-is_chunk-clause-kept g c = λ payload kept text.
    let done = c.exchange.ensures.kept g.S.Suite.opened c.args.key.now payload kept in
    record { first = done.first; other = done.other }
