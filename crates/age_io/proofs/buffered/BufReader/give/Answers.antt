use Rattle.std.proofs.Common.{arith, drop}
use Rattle.std.proofs.lemmas.Grind.{common_steps}
use Rattle.age_io.proofs.Holding.{follows-further, gives-held, copied-held}
use Rattle.age_io.proofs.buffered.BufReader.give.Goals as goal

pub invariant_of-self : goal.invariant_of-self
invariant_of-self g c =
    let before = c.args.self.now in
    record {
      order = grind (arith, common_steps);
      within = before.within;
      room = before.room;
      unspent = λ fresh some. before.unspent c.requires (omega arith);
      fits = λ told. omega (arith, before.fits told);
      follows = λ told steady fresh some.
          follows-further before.buffer.items _ _ before.given before.filled c.min-count.result (g.R.Read.place before.inner)
          before.within (omega arith) (before.fits told) (before.follows told steady c.requires (omega arith));
    }

pub returns-clause-bytes : goal.returns-clause-bytes
returns-clause-bytes g c =
    let before = c.args.self.now in
    let copied = rw c.deref.ensures.value at c.copy_from_slice.ensures.after in
    rw c.requires (gives-held before.buffer.items _ before.given before.filled c.min-count.result (g.R.Read.rest before.inner)
    (copied-held before.buffer.items c.copy_from_slice.new.self
    (drop c.min-count.result c.args.buf.now) before.given before.filled c.min-count.result before.within (omega arith) copied))
