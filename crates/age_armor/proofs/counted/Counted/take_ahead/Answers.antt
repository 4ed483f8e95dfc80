use Rattle.std.proofs.Common.{◌≡◌, ◌+◌, ◌-◌, arith}
use Rattle.age_armor.proofs.AheadLines.{ahead_taken, ahead_rest}
use Rattle.age_armor.proofs.counted.Counted.take_ahead.Goals as goal

pub invariant_of-self-clause-shows : goal.invariant_of-self-clause-shows
invariant_of-self-clause-shows g c =
    let before = c.args.self.now in
    ahead_rest before.ahead (g.R.BufRead.shown before.inner) _ before.next before.left before.shows c.requires c.consume.ensures.shows

pub returns-clause-full : goal.returns-clause-full
returns-clause-full g c = λ told.
    let before = c.args.self.now in
    let width : before.next + 48 - before.next ≡ 48 = omega arith in
    let copied = rw width at c.copy_from_slice.ensures.after in
    ahead_taken before.ahead (g.R.BufRead.shown before.inner) c.copy_from_slice.new.self before.next before.left (g.R.Read.rest before.inner)
    (g.R.Read.rest c.consume.new.self)
    before.shows c.requires copied c.known_bytes.ensures (c.consume.ensures.bytes told)
