use Rattle.std.proofs.Common.{◌≡◌, [], arith, refl}
use Rattle.std.proofs.lemmas.List.{nil_from_length}
use Rattle.age_stream.specs.WritingLemmas.{Sent-piece}
use Rattle.age_stream.proofs.writer.StreamWriter.send_piece.Goals as goal

pub returns-clause-sent : goal.returns-clause-sent
returns-clause-sent g c = λ told. let writer = c.args.self.now in
    let none : writer.held.items ≡ [] = nil_from_length writer.held.items (omega (arith, writer.held.ok.0, c.requires.none)) in
    Sent-piece g.S.Suite.seal_of g.W.Write.appended writer _ c.args.piece.now none c.requires.full
    refl none refl (c.in_ok-write_chunk.ensures.sent told)
