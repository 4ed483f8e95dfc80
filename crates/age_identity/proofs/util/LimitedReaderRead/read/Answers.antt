use Rattle.std.proofs.Common.{◌≡◌, arith, drop, length, refl}
use Rattle.std.proofs.lemmas.Grind.{common_steps}
use Rattle.age_identity.proofs.Within.{reads_part}
use Rattle.age_identity.proofs.util.LimitedReaderRead.read.Goals as goal

pub returns-then-self-eq0-clause-reads : goal.returns-then-self-eq0-clause-reads
returns-then-self-eq0-clause-reads g c = c.read_past.ensures.reads c.args.buf.now

pub returns-in-Ok-clause-reads : goal.returns-in-Ok-clause-reads
returns-in-Ok-clause-reads g c =
    let before = c.args.self.now in
    let most = c.min-most.result in
    let size : length c.read.new.buf ≡ most = grind (arith, common_steps) in
    reads_part g.R.Read before.inner c.read.new.self before.left c.in-Ok.count c.read.new.buf (drop most c.args.buf.now) _ before.past c.if-self.false
    (omega (arith, size, c.in-Ok.ensures.reads.count, c.min-most.ensures)) refl
    (λ some. omega (arith, size, c.min-most.ensures, some, c.if-self-eq0.false)) c.in-Ok.ensures.reads
