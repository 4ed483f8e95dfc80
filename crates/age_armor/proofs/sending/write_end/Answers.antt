use Rattle.std.proofs.Common.{◌≡◌, ◌<◌, ◌∙◌, arith, rules, length}
use Rattle.std.proofs.lemmas.Result.{on_ok_weaker}
use Rattle.age_io.specs.CopyingLemmas.{front-later, front-more}
use Rattle.age_io.specs.Writing.{HandsOn}
use Rattle.age_io.specs.WritingLemmas.{keeps-later}
use Rattle.age_base64.specs.Lines.{line}
use Rattle.age_base64.specs.Base64.{padded_columns}
use Rattle.age_v1.specs.Armor.{end_marker}
use Rattle.age_v1.proofs.WrittenLines.{last_line, no_line}
use Rattle.age_armor.proofs.sending.write_end.Goals as goal

pub returns-then-is_empty-clause-sent : goal.returns-then-is_empty-clause-sent
returns-then-is_empty-clause-sent g c = λ told.
    let none : length c.args.held.now ≡ 0 = search rules in
    rw (no_line c.args.held.now none) (c.write_end_marker.ensures.sent told)

pub returns-clause-sent : goal.returns-clause-sent
returns-clause-sent g c = λ told.
    let some : 0 < length c.args.held.now = grind arith in
    rw (last_line c.args.held.now some c.requires)
    (on_ok_weaker c.write_end_marker-2.result
    (g.met.W.Write.joins c.args.inner.now c.write_last_line.new.inner c.write_end_marker-2.new.inner (line (padded_columns c.args.held.now))
    (line end_marker)
    (c.in_ok-write_last_line.ensures.sent told)) (c.write_end_marker-2.ensures.sent (c.in_ok-write_last_line.ensures.keeps.same_tells ∙ told)))

pub returns-clause-keeps : goal.returns-clause-keeps
returns-clause-keeps g c = let w = g.W.Write in
    keeps-later w.tells w.faults (HandsOn w.refuses) c.args.inner.now c.write_last_line.new.inner c.write_end_marker-2.new.inner tt
    c.write_end_marker-2.result c.in_ok-write_last_line.ensures.keeps c.write_end_marker-2.ensures.keeps

pub returns-then-is_empty-clause-front : goal.returns-then-is_empty-clause-front
returns-then-is_empty-clause-front g c = λ told.
    let none : length c.args.held.now ≡ 0 = search rules in
    rw (no_line c.args.held.now none) (c.write_end_marker.ensures.front told)

pub returns-in_err-write_last_line-clause-front : goal.returns-in_err-write_last_line-clause-front
returns-in_err-write_last_line-clause-front g c = λ told.
    let some : 0 < length c.args.held.now = grind arith in
    rw (last_line c.args.held.now some c.requires)
    (front-more g.W.Write.appended (line (padded_columns c.args.held.now)) (line end_marker) _ _ (c.in_err-write_last_line.ensures.front told))

pub returns-clause-front : goal.returns-clause-front
returns-clause-front g c = λ told.
    let some : 0 < length c.args.held.now = grind arith in
    rw (last_line c.args.held.now some c.requires)
    (front-later g.W.Write.appended g.met.W.Write.joins (line (padded_columns c.args.held.now)) (line end_marker)
    c.args.inner.now c.write_last_line.new.inner c.write_end_marker-2.new.inner (c.in_ok-write_last_line.ensures.sent told)
    (c.write_end_marker-2.ensures.front (c.in_ok-write_last_line.ensures.keeps.same_tells ∙ told)))
