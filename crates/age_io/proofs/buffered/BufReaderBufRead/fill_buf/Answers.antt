use Rattle.std.proofs.Common.{ap, arith, false, inl, inr, length, refl, sym, ◌++◌, ◌≡◌, ◌∙◌}
use Rattle.std.proofs.lemmas.Bool.{true≢false}
use Rattle.std.proofs.lemmas.Result.{IfOk-from_err}
use Rattle.age_error.specs.ErrorLemmas.{of_error}
use Rattle.age_io.specs.Buffered.{rest_of}
use Rattle.age_io.specs.Buffering.{held, rest_behind, shown_behind}
use Rattle.age_io.proofs.Appending.{OnErr-of}
use Rattle.age_io.proofs.Exiting.{OnOk-refused}
use Rattle.age_io.proofs.Holding.{length-held}
use Rattle.age_io.proofs.buffered.BufReaderBufRead.fill_buf.Goals as goal

pub returns-in_err-hold : goal.returns-in_err-hold
returns-in_err-hold g c =
    let ens = c.in_err-hold.ensures in
    let refused = c.from_residual.ensures.0 in
    let is = c.from_residual.ensures.1 in
    let new = c.hold.new.self in (
      (
        refl,
        (λ _. tt),
        record {
          same_tells = ens.keeps.same.tells;
          same_steady = ens.keeps.same.steady;
          no_fewer_faults = ens.keeps.same.faults;
          device = of_error _ _ _ is ens.keeps.device;
          unspent = OnOk-refused _ _ refused;
          why = of_error _ _ _ is (inr ens.keeps.why);
          narrows = IfOk-from_err _ _ refused;
          again = of_error _ _ _ is (λ i. absurd (ens.keeps.patient i));
          shows = IfOk-from_err _ _ refused;
          own = record {
            failed = λ was. absurd (true≢false (sym was ∙ c.if-self.false));
            fails = OnErr-of _ ens.fails;
            good = OnOk-refused _ _ refused;
            patient = of_error _ _ _ is ens.keeps.patient;
          };
          same_content = ens.keeps.same.content;
          stays = ens.place;
          same_rest = λ told. OnOk-refused _ _ refused;
          left = λ told. OnErr-of _ (inr (ap (λ f. rest_behind f (held new.buffer.items new.given new.filled) (g.R.Read.rest new.inner)) ens.fails));
          interrupted = λ told. of_error _ _ _ is (λ i. absurd (ens.keeps.patient i));
          cause = λ told. of_error _ _ _ is (ens.cause told);
        },
      ),
      record { front = λ told. IfOk-from_err _ _ refused; end = λ told. IfOk-from_err _ _ refused; after = tt },
    )

pub returns : goal.returns
returns g c =
    let ens = c.in_ok-hold.ensures in
    let new = c.hold.new.self in
    let front = held new.buffer.items new.given new.filled in
    let good : rest_of new ≡ rest_behind false front (g.R.Read.rest new.inner) = ap (λ f. rest_behind f front (g.R.Read.rest new.inner)) ens.good in (
      (
        refl,
        (λ _. tt),
        record {
          same_tells = ens.keeps.same.tells;
          same_steady = ens.keeps.same.steady;
          no_fewer_faults = ens.keeps.same.faults;
          device = tt;
          unspent = ens.unspent;
          why = tt;
          narrows = λ e may. elim may [
            | inl failed ↦ absurd (true≢false (sym failed.0 ∙ ens.good))
            | inr why ↦ inr (ens.keeps.narrows e why)
          ];
          again = tt;
          shows = ap (λ f. shown_behind f front) ens.good ∙ sym c.as_held.ensures;
          own = record { failed = λ was. absurd (true≢false (sym was ∙ c.if-self.false)); fails = tt; good = ens.good; patient = tt };
          same_content = ens.keeps.same.content;
          stays = ens.place;
          same_rest = ens.rest;
          left = λ told. tt;
          interrupted = λ told. tt;
          cause = λ told. tt;
        },
      ),
      record {
        front = λ told. record {
          more = (g.R.Read.rest new.inner).bytes;
          bytes = ap (λ rest. rest.bytes) (sym (ens.rest told) ∙ good) ∙ ap (λ xs. xs ++ (g.R.Read.rest new.inner).bytes) (sym c.as_held.ensures);
        };
        end = λ told none. ens.end told
            (omega (arith, new.order, length-held new.buffer.items new.given new.filled new.within, ap length c.as_held.ensures, none));
        after = tt;
      },
    )
