use Rattle.std.proofs.Common.{◌≡◌, ◌∙◌, ◌+◌, arith, sym, subst, take, slice_set}
use Rattle.std.proofs.lemmas.Result.{on_ok_weaker}
use Rattle.age_io.specs.Copying.{AppendsFront}
use Rattle.age_io.specs.CopyingLemmas.{front-all_written}
use Rattle.age_io.specs.Writing.{Retried}
use Rattle.age_io.specs.WritingLemmas.{keeps-writer}
use Rattle.age_base64.specs.Lines.{line}
use Rattle.age_base64.specs.Base64.{padded_columns}
use Rattle.age_base64.proofs.PaddedColumns.{length-padded_columns}
use Rattle.age_armor.proofs.Encoded.{ended_line}
use Rattle.age_armor.proofs.sending.write_last_line.Goals as goal

pub returns-clause-sent : goal.returns-clause-sent
returns-clause-sent g c = λ told.
    let bytes = c.args.bytes.now in
    let n = c.encode-columns.result in
    let text : take (n + 1) (slice_set c.encode-columns.new.columns n 10) ≡ line (padded_columns bytes) =
    ended_line (padded_columns bytes) _ c.encode-columns.new.columns n c.encode-columns.ensures.written
    (length-padded_columns bytes ∙ sym c.encode-columns.ensures.count) (omega (arith, c.encode-columns.ensures.count)) in
    on_ok_weaker c.write_all.result (subst (λ z. g.W.Write.appended c.args.inner.now z c.write_all.new.writer) text)
    (c.write_all.ensures.writes.takes_all told)

pub returns-clause-front : goal.returns-clause-front
returns-clause-front g c = λ told. let w = g.W.Write in
    let bytes = c.args.bytes.now in
    let n = c.encode-columns.result in
    let text : take (n + 1) (slice_set c.encode-columns.new.columns n 10) ≡ line (padded_columns bytes) =
    ended_line (padded_columns bytes) _ c.encode-columns.new.columns n c.encode-columns.ensures.written
    (length-padded_columns bytes ∙ sym c.encode-columns.ensures.count) (omega (arith, c.encode-columns.ensures.count)) in
    subst (λ z. AppendsFront w.appended z c.args.inner.now c.write_all.new.writer) text
    (front-all_written w.appended w.tells w.faults (Retried w.refuses) _ _ _ c.write_all.result told c.write_all.ensures.writes)

pub returns-clause-keeps : goal.returns-clause-keeps
returns-clause-keeps g c = let w = g.W.Write in
    keeps-writer w.tells w.faults w.refuses w.appended _ _ _ c.write_all.result c.write_all.ensures.writes
