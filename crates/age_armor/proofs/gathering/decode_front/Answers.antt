use Rattle.std.proofs.Common.{◌≡◌, ◌*◌, ◌≤◌, arith, length, drop}
use Rattle.std.proofs.lemmas.List.{length-take-le}
use Rattle.age_armor.proofs.AheadLines.{ahead_none, ahead_decoded}
use Rattle.age_armor.proofs.gathering.decode_front.Goals as goal

pub returns-then-decode_full-clause-ahead : goal.returns-then-decode_full-clause-ahead
returns-then-decode_full-clause-ahead c =
    let n = c.gather-count.result in
    let old = c.args.bytes.now in
    let gathered = c.gather-count.ensures in
    let room : 48 * n ≤ length old = omega (arith, c.requires, gathered.room, c.gather-count.auto.columns) in
    let size : length c.decode_full.new.bytes ≡ 48 * n = omega (arith, c.decode_full.auto.bytes, length-take-le (48 * n) old room) in
    ahead_decoded c.args.front.now c.gather-count.new.columns c.decode_full.new.bytes (drop (48 * n) old) n gathered.shown gathered.lines size
    (c.decode_full.ensures c.if-decode_full.true)

pub returns-else-decode_full-clause-ahead : goal.returns-else-decode_full-clause-ahead
returns-else-decode_full-clause-ahead c = ahead_none _ c.args.front.now 0
