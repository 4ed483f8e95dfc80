use Rattle.std.proofs.Common.{rules, arith, refl}
use Rattle.age_devices.proofs.Showing.{shown-next, is-front, shows-none, ends-there}
use Rattle.age_devices.proofs.source.SourceBufRead.fill_buf.Goals as goal

pub returns : goal.returns
returns c =
    let before = c.args.self.now in (
      (
        refl,
        (λ _. tt),
        record {
          same_tells = refl;
          same_steady = refl;
          no_fewer_faults = search rules;
          device = tt;
          unspent = search rules;
          why = tt;
          narrows = λ e h. h;
          again = tt;
          shows = shown-next before.bytes.now before.place c.count.result;
          own = ((λ below. (search rules, search rules)), λ _. refl);
          same_content = λ told. refl;
          stays = λ told. refl;
          same_rest = λ told. refl;
          left = λ told. tt;
          interrupted = λ told. tt;
          cause = λ told. tt;
        },
      ),
      record {
        front = λ told. is-front before.bytes.now before.place _;
        end = λ told none. ends-there before.bytes.now before.place
            (c.count.ensures.none (shows-none before.bytes.now before.place c.count.result c.count.ensures.there none) (omega arith));
        after = tt;
      },
    )
