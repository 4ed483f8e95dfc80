use Rattle.std.proofs.Common.{◌≡◌, ◌<◌, arith, refl, ap, length}
use Rattle.age_io.proofs.Appending.{OnErr-of}
use Rattle.age_stream.specs.WritingLemmas.{Sent-held}
use Rattle.age_stream.proofs.Sent.{sends-held}
use Rattle.age_stream.proofs.writer.StreamWriter.exchange_held.Goals as goal

pub returns-clause-took : goal.returns-clause-took
returns-clause-took g c = λ told.
    let writer = c.args.self.now in
    let held : length writer.held.items ≡ 65536 = omega (arith, c.requires.full.0, writer.held.ok.0) in
    let is = ap (λ v. v.items) c.swap.ensures.x_after in
    let some : 0 < length c.swap.new.x.items = omega (arith, c.requires.full.1, ap length is) in
    record {
      sending = Sent-held g.S.Suite.seal_of g.W.Write.appended writer _ c.args.piece.now.items held refl is refl
          (rw c.deref.ensures.value at (c.in_ok-write_chunk.ensures.sent told));
      followed = λ _. some;
    }

pub returns-in_err-write_chunk-clause-front : goal.returns-in_err-write_chunk-clause-front
returns-in_err-write_chunk-clause-front g c = λ told.
    let writer = c.args.self.now in
    let held : length writer.held.items ≡ 65536 = omega (arith, c.requires.full.0, writer.held.ok.0) in
    OnErr-of _ (sends-held g.S.Suite.seal_of g.W.Write.appended writer c.args.piece.now.items c.write_chunk.new.inner held
    (omega (arith, c.requires.full.1))
    (rw c.deref.ensures.value at (c.in_err-write_chunk.ensures.front told)))
