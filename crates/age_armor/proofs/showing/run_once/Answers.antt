use Rattle.std.proofs.Common.{◌+◌, ◌∙◌, length, refl, arith}
use Rattle.std.proofs.lemmas.List.{length-take-le}
use Rattle.age_armor.proofs.Taking.{appended_line, appended_all, moved_by}
use Rattle.age_armor.proofs.showing.run_once.Goals as goal

pub returns-in_ok-extend_from_slice-in-Some-clause-run : goal.returns-in_ok-extend_from_slice-in-Some-clause-run
returns-in_ok-extend_from_slice-in-Some-clause-run g c = λ told.
    let filled = c.fill_buf.follows.holds-at-none in
    let rest = g.B.Read.rest in
    appended_line c.in-Some.at c.in_ok-front.front.now (g.B.BufRead.shown c.fill_buf.follows.lender-at-none)
    c.args.line.now.items c.extend_from_slice.new.self.items
    (rest c.args.reader.now) (rest c.fill_buf.follows.lender-at-none) (rest c.consume.new.self) c.in-Some.ensures
    (rw c.in_ok-front.was at filled.shows)
    (rw c.in_ok-front.was at filled.same_rest told) c.in_ok-extend_from_slice-in-Some.ensures.items
    (c.consume.ensures.bytes (filled.same_tells ∙ told))

pub returns-in_ok-extend_from_slice-in-None-clause-run : goal.returns-in_ok-extend_from_slice-in-None-clause-run
returns-in_ok-extend_from_slice-in-None-clause-run g c = λ told.
    let filled = c.fill_buf.follows.holds-at-none in
    let rest = g.B.Read.rest in
    appended_all c.in_ok-front.front.now (g.B.BufRead.shown c.fill_buf.follows.lender-at-none)
    c.args.line.now.items c.extend_from_slice-in-None.new.self.items
    (rest c.args.reader.now) (rest c.fill_buf.follows.lender-at-none) (rest c.consume-in-None.new.self) c.in-None.ensures
    (rw c.in_ok-front.was at filled.shows)
    (rw c.in_ok-front.was at filled.same_rest told) c.in_ok-extend_from_slice-in-None.ensures.items
    (c.consume-in-None.ensures.bytes (filled.same_tells ∙ told))

pub returns-in_ok-extend_from_slice-in-Some-clause-moves : goal.returns-in_ok-extend_from_slice-in-Some-clause-moves
returns-in_ok-extend_from_slice-in-Some-clause-moves g c = λ told.
    let filled = c.fill_buf.follows.holds-at-none in
    moved_by (c.in-Some.at + 1) _ _ _ _ _ _ c.in_ok-extend_from_slice-in-Some.ensures.items
    (length-take-le (c.in-Some.at + 1) c.in_ok-front.front.now (omega (arith, c.in-Some.ensures.within)))
    (filled.stays told) (c.consume.ensures.moves (filled.same_tells ∙ told))

pub returns-in_ok-extend_from_slice-in-None-clause-moves : goal.returns-in_ok-extend_from_slice-in-None-clause-moves
returns-in_ok-extend_from_slice-in-None-clause-moves g c = λ told.
    let filled = c.fill_buf.follows.holds-at-none in
    moved_by (length c.in_ok-front.front.now) _ _ _ _ _ _ c.in_ok-extend_from_slice-in-None.ensures.items refl (filled.stays told)
    (c.consume-in-None.ensures.moves (filled.same_tells ∙ told))
