use Rattle.std.proofs.Common.{arith, refl, ◌≤◌, ◌-◌}
use Rattle.age_io.proofs.Holding.{follows-further, gives-shown, shown-fits, shows-further}
use Rattle.age_io.proofs.buffered.BufReaderBufRead.consume.Goals as goal

pub invariant_of-self : goal.invariant_of-self
invariant_of-self g c =
    let before = c.args.self.now in
    let fits : c.args.amount ≤ before.filled - before.given =
    shown-fits before.failed before.buffer.items before.given before.filled c.args.amount before.within c.requires in
    let order = before.order in
    record {
      order = omega arith;
      within = before.within;
      room = before.room;
      unspent = λ fresh some. before.unspent fresh (omega arith);
      fits = λ told. omega (arith, before.fits told);
      follows = λ told steady fresh some.
          follows-further before.buffer.items _ _ before.given before.filled c.args.amount (g.R.Read.place before.inner)
          before.within (omega arith) (before.fits told) (before.follows told steady fresh (omega arith));
    }

pub returns-clause-consumes : goal.returns-clause-consumes
returns-clause-consumes g c =
    let before = c.args.self.now in
    let fits : c.args.amount ≤ before.filled - before.given =
    shown-fits before.failed before.buffer.items before.given before.filled c.args.amount before.within c.requires in
    let order = before.order in
    record {
      same_tells = refl;
      same_steady = refl;
      same_faults = refl;
      narrows = λ e h. h;
      shows = shows-further before.failed before.buffer.items before.given before.filled c.args.amount;
      same_content = λ told. refl;
      bytes = λ told. gives-shown before.failed before.buffer.items before.given before.filled c.args.amount (g.R.Read.rest before.inner) c.requires;
      moves = λ told. omega (arith, before.fits told);
    }
