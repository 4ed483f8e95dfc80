use Rattle.std.proofs.Common.{◌≡◌, arith, length, drop}
use Rattle.std.proofs.lemmas.Grind.{common_steps}
use Rattle.std.proofs.lemmas.List.{take-append-le}
use Rattle.age_stream.proofs.source.Source.fill_front.Goals as goal

pub returns-clause-cause : goal.returns-clause-cause
returns-clause-cause g c =
    let size : length c.fill.new.buf ≡ c.args.asked = grind (arith, common_steps) in
    rw size at c.fill.ensures.cause

pub returns-clause-turns : goal.returns-clause-turns
returns-clause-turns g c =
    let size : length c.fill.new.buf ≡ c.args.asked = grind (arith, common_steps) in
    let front = take-append-le c.fill.new.filled c.fill.new.buf (drop c.args.asked c.args.room.now) c.fill.ensures.count in
    rw front (rw size at c.fill.ensures.turns)

pub returns-clause-refused : goal.returns-clause-refused
returns-clause-refused g c =
    let size : length c.fill.new.buf ≡ c.args.asked = grind (arith, common_steps) in
    let front = take-append-le c.fill.new.filled c.fill.new.buf (drop c.args.asked c.args.room.now) c.fill.ensures.count in
    rw front (rw size at c.fill.ensures.refused)
