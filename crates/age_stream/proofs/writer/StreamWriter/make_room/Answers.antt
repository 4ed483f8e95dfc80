use Rattle.std.proofs.Common.{arith, refl, ◌≡◌, length, rules, []}
use Rattle.age_stream.specs.WritingLemmas.{Sent-held}
use Rattle.age_stream.proofs.writer.StreamWriter.make_room.Goals as goal

pub returns-clause-sent : goal.returns-clause-sent
returns-clause-sent g c = λ told. let writer = c.args.self.now in
    Sent-held g.S.Suite.seal_of g.W.Write.appended writer _ [] (omega (arith, writer.one_piece, writer.held.ok.0))
    refl c.clear.ensures.items refl (rw c.deref.ensures.value at (c.in_ok-write_chunk.ensures.sent told))

pub returns-in_err-write_chunk-clause-front : goal.returns-in_err-write_chunk-clause-front
returns-in_err-write_chunk-clause-front g c = λ told. let writer = c.args.self.now in
    let full : length writer.held.items ≡ 65536 = omega (arith, writer.one_piece, writer.held.ok.0) in
    let out = rw c.deref.ensures.value at (c.in_err-write_chunk.ensures.front told) in
    search rules
