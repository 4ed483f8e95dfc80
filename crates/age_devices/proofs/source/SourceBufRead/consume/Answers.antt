use Rattle.std.proofs.Common.{refl, sym}
use Rattle.age_io.proofs.Holding.{held-further}
use Rattle.age_devices.proofs.Showing.{gives-of-shown}
use Rattle.age_devices.proofs.source.SourceBufRead.consume.Goals as goal

pub returns-clause-consumes : goal.returns-clause-consumes
returns-clause-consumes c =
    let before = c.args.self.now in
    record {
      same_tells = refl;
      same_steady = refl;
      same_faults = refl;
      narrows = λ e h. h;
      shows = sym (held-further before.bytes.now before.place before.end c.args.amount);
      same_content = λ told. refl;
      bytes = λ told. gives-of-shown before.bytes.now before.place before.end c.args.amount before.order before.within c.requires;
      moves = λ told. refl;
    }
