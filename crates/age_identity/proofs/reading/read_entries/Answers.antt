use Rattle.std.proofs.Common.{◌+◌, ◌<◌, ◌^◌, arith, refl, length, length-take, take}
use Rattle.age_identity.specs.Limited.{is_past}
use Rattle.age_identity.proofs.Finishing.{read_more, read_refused, read_bad, read_ended, gave_within}
use Rattle.age_identity.proofs.reading.read_entries.Goals as goal

pub returns-in-Err : goal.returns-in-Err
returns-in-Err g c =
    read_refused g.R.Read c.args.reader.now c.reads.reader c.read_some.new.reader c.reads.parser c.reads.invariant _ c.read_some.new.buf c.in-Err.e
    (is_past c.read_some.new.reader) refl c.in-Err.ensures.patient c.in-Err.ensures.inner c.in-Err.ensures.meets

pub returns-then-count-eq0 : goal.returns-then-count-eq0
returns-then-count-eq0 g c =
    let loop = c.reads.invariant in
    let within = gave_within (is_past c.read_some.new.reader) c.in-Ok.count _ (λ past. (c.in-Ok.ensures.meets past).answer) in
    let short : length loop.text < 2 ^ 63 = omega (arith, loop.counted, c.requires.few) in
    read_ended g.R.Read c.args.reader.now c.reads.reader c.read_some.new.reader c.reads.parser loop _ c.read_some.new.buf c.in-Ok.count
    c.finish.result
    c.if-count-eq0.true (c.in-Ok.ensures.inner within) (c.finish.ensures loop.text short loop.here)

pub returns-in-Err-push_all : goal.returns-in-Err-push_all
returns-in-Err-push_all g c =
    let loop = c.reads.invariant in
    let within = gave_within (is_past c.read_some.new.reader) c.in-Ok.count _ (λ past. (c.in-Ok.ensures.meets past).answer) in
    let size = length-take c.in-Ok.count c.read_some.new.buf in
    let short : length loop.text + length (take c.in-Ok.count c.read_some.new.buf) < 2 ^ 63 =
    omega (arith, loop.counted, c.requires.few, size, c.if-count-eq0.array_long) in
    let bad = c.in-Err-push_all.ensures loop.text short loop.here in
    read_bad g.R.Read c.args.reader.now c.reads.reader c.read_some.new.reader c.reads.parser loop _ c.read_some.new.buf bad.0 bad.1 c.in-Ok.count
    c.in-Err-push_all.e
    c.in-Ok.ensures.counts (c.in-Ok.ensures.inner within) bad.2 bad.3

pub reads-preserved : goal.reads-preserved
reads-preserved g c =
    let loop = c.reads.invariant in
    let within = gave_within (is_past c.read_some.new.reader) c.in-Ok.count _ (λ past. (c.in-Ok.ensures.meets past).answer) in
    let size = length-take c.in-Ok.count c.read_some.new.buf in
    let short : length loop.text + length (take c.in-Ok.count c.read_some.new.buf) < 2 ^ 63 =
    omega (arith, loop.counted, c.requires.few, size, c.if-count-eq0.array_long) in
    read_more g.R.Read c.args.reader.now c.reads.reader c.read_some.new.reader c.reads.parser loop c.in-Ok-push_all.next c.read_some.new.buf
    c.in-Ok.count within
    c.in-Ok.ensures.counts (c.in-Ok.ensures.inner within) (c.in-Ok-push_all.ensures loop.text short loop.here)
