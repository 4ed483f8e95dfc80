use Rattle.std.proofs.Common.{rules, refl, ◌<◌, length, drop}
use Rattle.age_devices.proofs.Showing.{gives-next, copied-next, ends-there}
use Rattle.age_devices.proofs.source.SourceRead.read.Goals as goal

pub returns-clause-reads : goal.returns-clause-reads
returns-clause-reads c =
    record {
      count = search rules;
      same_tells = refl;
      same_steady = refl;
      no_fewer_faults = search rules;
      device = tt;
      unspent = search rules;
      why = tt;
      narrows = λ e h. h;
      again = tt;
      same_content = λ told. refl;
      bytes = λ told. let before = c.args.self.now in gives-next before.bytes.now _ before.place c.count-count.result
          (copied-next before.bytes.now c.copy_from_slice.new.self
          (drop c.count-count.result c.args.buf.now) before.place c.count-count.result c.count-count.ensures.there
          c.copy_from_slice.ensures.after);
      moves = λ told. refl;
      end = λ told none some.
          let room : 0 < length c.args.buf.now = search rules in
          ends-there c.args.self.now.bytes.now c.args.self.now.place (c.count-count.ensures.none none room);
      stays = λ told. tt;
      left = λ told. tt;
      interrupted = λ told. tt;
      cause = λ told. tt;
    }
