use Rattle.std.proofs.Common.{arith}
use Rattle.std.proofs.lemmas.List.{take_all}
use Rattle.age_io.proofs.Appending.{exchanged, unexchanged}
use Rattle.age_io.proofs.whole.write_front.Goals as goal

pub returns-in-Ok-true-clause-writes : goal.returns-in-Ok-true-clause-writes
returns-in-Ok-true-clause-writes g c =
    let piece = c.args.piece.now.items in
    let all = take_all c.args.count piece (omega (arith, c.if-count-len.true, c.len.ensures)) in
    exchanged g.W.Write c.args.writer.now c.exchange.new.self _ piece all c.in-Ok-true.field-0 c.in-Ok-true.field-0-test c.in-Ok-true.ensures.takes

pub returns-in-Err-clause-writes : goal.returns-in-Err-clause-writes
returns-in-Err-clause-writes g c =
    let piece = c.args.piece.now.items in
    let all = take_all c.args.count piece (omega (arith, c.if-count-len.true, c.len.ensures)) in
    unexchanged g.W.Write c.args.writer.now c.exchange.new.self _ piece all c.in-Err.refused c.in-Err.ensures.takes
