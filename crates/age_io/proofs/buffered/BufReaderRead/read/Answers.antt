use Rattle.std.specs.Prelude.{min}
use Rattle.std.proofs.Common.{ℕ, ◌≡◌, ◌≤◌, ◌<◌, ◌+◌, ◌-◌, ap, arith, inl, inr, length, refl, subst, sym, take, ◌∙◌}
use Rattle.std.proofs.lemmas.Bool.{eqb-true, true≢false}
use Rattle.std.proofs.lemmas.Grind.{common_steps}
use Rattle.std.proofs.lemmas.Result.{IfOk-from_err}
use Rattle.age_error.specs.ErrorLemmas.{of_error}
use Rattle.age_io.specs.Buffered.{rest_of}
use Rattle.age_io.specs.Buffering.{held, rest_behind}
use Rattle.age_io.specs.Reading.{Delivers, TriedAgain, most_faults}
use Rattle.age_io.proofs.Appending.{OnErr-of}
use Rattle.age_io.proofs.Exiting.{OnOk-refused}
use Rattle.age_io.proofs.buffered.BufReaderRead.read.Goals as goal

-- what gives nothing into some room holds nothing
drained : (size given filled : ℕ) → given ≤ filled → min size (filled - given) ≡ 0 → 0 < size → given ≡ filled
drained size given filled order is some = grind (arith, common_steps, is)

at_most : (n size left room : ℕ) → room ≡ size → n ≡ min size left → n ≤ room
at_most n size left room kept is = grind (arith, common_steps, is)

some_still : (room size : ℕ) → room ≡ size → 0 < room → 0 < size
some_still room size kept some = omega (arith, kept, some)

pub returns-in_err-hold-clause-reads : goal.returns-in_err-hold-clause-reads
returns-in_err-hold-clause-reads g c =
    let ens = c.in_err-hold.ensures in
    let refused = c.from_residual.ensures.0 in
    let is = c.from_residual.ensures.1 in
    let new = c.hold.new.self in
    record {
      count = IfOk-from_err _ _ refused;
      same_tells = ens.keeps.same.tells;
      same_steady = ens.keeps.same.steady;
      no_fewer_faults = ens.keeps.same.faults;
      device = of_error _ _ _ is ens.keeps.device;
      unspent = IfOk-from_err _ _ refused;
      why = of_error _ _ _ is (inr ens.keeps.why);
      narrows = OnOk-refused _ _ refused;
      again = of_error _ _ _ is (λ i. absurd (ens.keeps.patient i));
      same_content = ens.keeps.same.content;
      bytes = λ told. IfOk-from_err _ _ refused;
      moves = λ told. IfOk-from_err _ _ refused;
      end = λ told. IfOk-from_err _ _ refused;
      stays = λ told. OnErr-of _ (ens.place told);
      left = λ told. OnErr-of _ (inr (ap (λ f. rest_behind f (held new.buffer.items new.given new.filled) (g.R.Read.rest new.inner)) ens.fails));
      interrupted = λ told. of_error _ _ _ is (λ i. absurd (ens.keeps.patient i));
      cause = λ told. of_error _ _ _ is (ens.cause told);
    }

pub returns-then-is_empty-clause-reads : goal.returns-then-is_empty-clause-reads
returns-then-is_empty-clause-reads g c =
    let none : length c.args.buf.now ≡ 0 = eqb-true (length c.args.buf.now) 0 (sym c.is_empty.ensures ∙ c.if-is_empty.true) in
    record {
      count = omega arith;
      same_tells = refl;
      same_steady = refl;
      no_fewer_faults = omega arith;
      device = tt;
      unspent = λ some. absurd (omega (arith, none, some));
      why = tt;
      narrows = λ e may. may;
      again = tt;
      same_content = λ told. refl;
      bytes = search;
      moves = λ told. omega arith;
      end = λ told is some. absurd (omega (arith, none, some));
      stays = λ told. tt;
      left = λ told. tt;
      interrupted = λ told. tt;
      cause = λ told. tt;
    }

pub returns-clause-reads : goal.returns-clause-reads
returns-clause-reads g c =
    let ens = c.in_ok-hold.ensures in
    let given = c.give.ensures in
    let middle = c.hold.new.self in
    let inner = c.args.self.now.inner in
    let kept : length c.give.new.buf ≡ length c.args.buf.now = grind (arith, common_steps) in
    record {
      count = at_most _ _ _ _ kept given.count;
      same_tells = ap g.R.Read.tells given.inner ∙ ens.keeps.same.tells;
      same_steady = ap g.R.Read.steady given.inner ∙ ens.keeps.same.steady;
      no_fewer_faults = subst (λ r. g.R.Read.faults inner ≤ g.R.Read.faults r) (sym given.inner) ens.keeps.same.faults;
      device = tt;
      unspent = λ some. subst (λ r. g.R.Read.faults r < most_faults) (sym given.inner) ens.unspent;
      why = tt;
      narrows = λ e may. elim may [
        | inl failed ↦ absurd (true≢false (sym failed.0 ∙ given.good))
        | inr why ↦ inr (ens.keeps.narrows e (subst (λ r. TriedAgain g.R.Read.refuses r e) given.inner why))
      ];
      again = tt;
      same_content = λ told. ap g.R.Read.content given.inner ∙ ens.keeps.same.content told;
      bytes = λ told. subst (λ rest. Delivers (take c.give.result c.give.new.buf) rest (rest_of c.give.new.self)) (ens.rest told) given.bytes;
      moves = λ told. given.moves (ens.keeps.same.tells ∙ told) ∙ ap (λ place. place + c.give.result) (ens.place told);
      end = λ told is some. ens.end told (drained _ _ _ (middle.order) (sym given.count ∙ is) (some_still _ _ kept some));
      stays = λ told. tt;
      left = λ told. tt;
      interrupted = λ told. tt;
      cause = λ told. tt;
    }
