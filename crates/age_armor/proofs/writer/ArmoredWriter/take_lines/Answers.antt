use Rattle.std.proofs.Common.{◌≡◌, [], arith, rules}
use Rattle.std.proofs.lemmas.List.{nil_from_length}
use Rattle.age_armor.proofs.Sent.{sends-fresh}
use Rattle.age_armor.proofs.writer.ArmoredWriter.take_lines.Goals as goal

pub returns-in_err-write_lines-clause-front : goal.returns-in_err-write_lines-clause-front
returns-in_err-write_lines-clause-front g c = λ told. let writer = c.args.self.now in
    let none : writer.held.items ≡ [] = nil_from_length writer.held.items (omega (arith, writer.held.ok.0, c.requires.none)) in
    let sends = sends-fresh g.W.Write.appended writer _ c.args.bytes.now c.write_lines.new.inner none (c.in_err-write_lines.ensures.front told) in
    search rules
