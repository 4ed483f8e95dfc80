use Rattle.std.proofs.Common.{rules, ◌≡◌, ◌<◌, [], arith, length, take, ◌∙◌}
use Rattle.std.proofs.lemmas.List.{nil_from_length}
use Rattle.std.specs.Prelude.{Ok, Err}
use Rattle.age_io.specs.WritingLemmas.{keeps-later, keeps-well}
use Rattle.age_stream.specs.Sending.{RefusesChunk}
use Rattle.age_stream.specs.WritingLemmas.{Sent-both}
use Rattle.age_stream.specs.Writing.{held_len}
use Rattle.age_stream.proofs.Sent.{sends-held, sends-piece, sends-on}
use Rattle.age_stream.proofs.writer.StreamWriter.take_some.Goals as goal

pub returns-then-count-bytes-clause-sent : goal.returns-then-count-bytes-clause-sent
returns-then-count-bytes-clause-sent g c = λ told. let w = g.W.Write in
    let roomy = c.in_ok-make_room.ensures in
    Sent-both g.S.Suite.seal_of w.appended g.met.W.Write.joins c.args.self.now c.make_room.new.self c.send_piece.new.self []
    (take c.min-count.result c.args.bytes.now)
    (roomy.sent told) (c.in_ok-send_piece.ensures.sent (roomy.inner.same_tells ∙ told))

pub returns-clause-sent : goal.returns-clause-sent
returns-clause-sent g c = λ told. let w = g.W.Write in
    let roomy = c.in_ok-make_room.ensures in
    Sent-both g.S.Suite.seal_of w.appended g.met.W.Write.joins c.args.self.now c.make_room.new.self c.hold.new.self []
    (take c.min-count.result c.args.bytes.now)
    (roomy.sent told) (c.in_ok-hold.ensures.sent (roomy.inner.same_tells ∙ told))

pub returns-in_err-send_piece-clause-inner : goal.returns-in_err-send_piece-clause-inner
returns-in_err-send_piece-clause-inner g c = let w = g.W.Write in
    let refused = keeps-later w.tells w.faults (RefusesChunk w.refuses) c.args.self.now.inner c.make_room.new.self.inner c.send_piece.new.self.inner
    tt (Err c.in_err-send_piece.field-0.0) c.in_ok-make_room.ensures.inner c.in_err-send_piece.ensures.inner in
    search rules

pub returns-then-count-bytes-clause-inner : goal.returns-then-count-bytes-clause-inner
returns-then-count-bytes-clause-inner g c = let w = g.W.Write in
    keeps-later w.tells w.faults (RefusesChunk w.refuses) c.args.self.now.inner c.make_room.new.self.inner c.send_piece.new.self.inner
    tt (Ok c.min-count.result) c.in_ok-make_room.ensures.inner
    (keeps-well w.tells w.faults (RefusesChunk w.refuses) _ _ tt c.min-count.result c.in_ok-send_piece.ensures.inner)

pub returns-clause-inner : goal.returns-clause-inner
returns-clause-inner g c = let w = g.W.Write in
    keeps-later w.tells w.faults (RefusesChunk w.refuses) c.args.self.now.inner c.make_room.new.self.inner c.hold.new.self.inner
    tt (Ok c.min-count.result) c.in_ok-make_room.ensures.inner
    (keeps-well w.tells w.faults (RefusesChunk w.refuses) _ _ tt c.min-count.result c.in_ok-hold.ensures.inner)

pub returns-in_err-make_room-clause-front : goal.returns-in_err-make_room-clause-front
returns-in_err-make_room-clause-front g c = λ told.
    let out = c.in_err-make_room.ensures.front told in
    let sends = λ (full : held_len c.args.self.now ≡ 65536). sends-held g.S.Suite.seal_of g.W.Write.appended c.args.self.now c.args.bytes.now
    c.make_room.new.self.inner
    (omega (arith, full, c.args.self.now.held.ok.0)) c.requires.some in
    search rules

pub returns-in_err-send_piece-clause-front : goal.returns-in_err-send_piece-clause-front
returns-in_err-send_piece-clause-front g c = λ told. let w = g.W.Write in
    let between = c.make_room.new.self in
    let bytes = c.args.bytes.now in
    let roomy = c.in_ok-make_room.ensures in
    let none : held_len between ≡ 0 = search rules in
    let count : c.min-count.result ≡ 65536 = search rules in
    let more : 65536 < length bytes = search rules in
    let empty : between.held.items ≡ [] = nil_from_length between.held.items (omega (arith, between.held.ok.0, none)) in
    let sends = sends-on g.S.Suite.seal_of w.appended g.met.W.Write.joins c.args.self.now between c.send_piece.new.self.inner [] bytes
    (roomy.sent told) c.requires.some
    (sends-piece g.S.Suite.seal_of w.appended between bytes c.send_piece.new.self.inner empty more
    (rw count at (c.in_err-send_piece.ensures.front (roomy.inner.same_tells ∙ told)))) in
    search rules
