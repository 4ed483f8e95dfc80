use Rattle.std.proofs.Common.{◌≡◌, ◌*◌, ◌/◌, ◌++◌, ◌∙◌, length, rules, subst, take, take_at, drop}
use Rattle.age_io.specs.Copying.{AppendsFront}
use Rattle.age_io.specs.CopyingLemmas.{front-all_written}
use Rattle.age_io.specs.Writing.{Retried}
use Rattle.age_io.specs.WritingLemmas.{keeps-writer}
use Rattle.age_v1.specs.ArmorFullLines.{full_lines}
use Rattle.age_armor.proofs.sending.write_lines.Goals as goal

pub returns-clause-keeps : goal.returns-clause-keeps
returns-clause-keeps g c = let w = g.W.Write in
    keeps-writer w.tells w.faults w.refuses w.appended _ _ _ c.write_all.result c.write_all.ensures.writes

pub returns-clause-front : goal.returns-clause-front
returns-clause-front g c = λ told. let w = g.W.Write in
    let bytes = c.args.bytes.now in
    let n = 65 * (length bytes / 48) in
    let size : length c.encode_lines.new.text ≡ n = search rules in
    let text : take n (c.encode_lines.new.text ++ drop n c.args.text.now) ≡ full_lines (length bytes / 48) bytes =
    take_at c.encode_lines.new.text (drop n c.args.text.now) n size ∙ c.encode_lines.ensures in
    subst (λ z. AppendsFront w.appended z c.args.inner.now c.write_all.new.writer) text
    (front-all_written w.appended w.tells w.faults (Retried w.refuses) _ _ _ c.write_all.result told c.write_all.ensures.writes)
