use Rattle.std.proofs.Common.{arith, refl}
use Rattle.age_identity.proofs.Within.{fills_part, front_within, ends_within, take-min}
use Rattle.age_identity.proofs.util.LimitedReaderBufRead.fill_buf.Goals as goal

pub returns-in-Ok : goal.returns-in-Ok
returns-in-Ok g c = (
  (refl, (λ _. tt), c.in-Ok.ensures.ended _ refl),
  record {
    front = λ told. record { more = _; bytes = refl };
    end = λ told none. c.in-Ok.ensures.end told;
    after = tt;
  },
)

pub returns-in-Ok-fill_buf : goal.returns-in-Ok-fill_buf
returns-in-Ok-fill_buf g c =
    let before = c.args.self.now in
    let front = c.in-Ok-fill_buf.front in
    let fills = rw c.in-Ok-fill_buf.is at c.fill_buf.follows.holds-at-none in (
      (
        refl,
        (λ _. tt),
        fills_part g.R.Read g.R.BufRead.shown g.R.BufRead.besides before.inner c.fill_buf.follows.lender-at-none before.left before.past front _
            c.if-self.false
            (take-min front.now before.left c.min.result c.min.ensures) fills,
      ),
      record {
        front = λ told. front_within front.now _ before.left c.min.result before.past c.if-self.false c.min.ensures
            (c.in-Ok-fill_buf.ensures.front told);
        end = λ told none. ends_within front.now _ before.left c.min.result before.past c.if-self.false c.min.ensures
            (omega (arith, c.if-self-eq0.false))
            (c.in-Ok-fill_buf.ensures.end told) none;
        after = tt;
      },
    )
