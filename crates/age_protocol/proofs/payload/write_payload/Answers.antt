use Rattle.age_protocol.proofs.Writing.{copy-cut, payload-closed}
use Rattle.age_protocol.proofs.payload.write_payload.Goals as goal

pub returns-in-Err : goal.returns-in-Err
returns-in-Err g c = λ key first made.
    let copied = c.in-Err.ensures in
    copy-cut g.S.Suite.seal_of g.R.Read g.W.Write c.args.reader.now c.copy_all.new.reader key first c.args.stream.now made c.copy_all.new.writer
    c.in-Err.error
    c.sent_law.ensures.calls copied.front copied.why copied.named copied.device

pub returns-in-Ok : goal.returns-in-Ok
returns-in-Ok g c = λ key first made.
    let copied = c.in-Ok.ensures in
    let closed = c.close.ensures in
    payload-closed g.S.Suite.seal_of g.R.Read g.W.Write c.args.reader.now c.copy_all.new.reader key first c.args.stream.now made
    c.copy_all.new.writer c.close.new.self
    copied.tells copied.no_fewer_faults copied.all copied.narrows c.close.result c.sent_law.ensures.close closed.ok closed.within closed.closes
    closed.front
