use Rattle.std.proofs.Common.{rules}
use Rattle.age_armor.proofs.Sent.{sends-part}
use Rattle.age_armor.proofs.writer.ArmoredWriter.take_some.Goals as goal

pub returns-in_err-fill_line-clause-front : goal.returns-in_err-fill_line-clause-front
returns-in_err-fill_line-clause-front g c = λ told.
    let sends = sends-part g.W.Write.appended c.args.self.now c.min-count.result c.args.bytes.now c.fill_line.new.self.inner
    (c.in_err-fill_line.ensures.front told) in
    search rules
