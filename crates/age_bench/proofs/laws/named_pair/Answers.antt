use Rattle.std.specs.Prelude.{⊤}
use Rattle.std.proofs.Common.{sym, subst}
use Rattle.age_bench.proofs.NamedPairs.{IsPaired, bench_paired, key_paired}
use Rattle.age_bench.proofs.laws.named_pair.Goals as goal

pub returns-in-Bench : goal.returns-in-Bench
returns-in-Bench c = subst (λ w. IsPaired c.args.to.now w) (sym c.in-Bench.is) (bench_paired {R = ⊤} tt _ c.bench_pair.ensures c.args.to.now)

pub returns-in-Key : goal.returns-in-Key
returns-in-Key c = subst (λ w. IsPaired c.args.to.now w) (sym c.in-Key.is)
    (key_paired c.in-Key.identity c.x25519_pair.ensures.beside_others c.args.to.now)

pub returns-in-Passphrase : goal.returns-in-Passphrase
returns-in-Passphrase c = subst (λ w. IsPaired c.args.to.now w) (sym c.in-Passphrase.is) c.passphrase_pair.ensures
