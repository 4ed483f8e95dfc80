use Rattle.std.proofs.Common.{◌<◌, ◌^◌, sym, subst}
use Rattle.age_bech32.proofs.Remainders.{generated_is, generated-below}
use Rattle.age_bech32.proofs.checksum.generated.Goals as goal

pub returns-clause-value : goal.returns-clause-value
returns-clause-value c = generated_is c.args.top

pub returns-clause-bound : goal.returns-clause-bound
returns-clause-bound c = subst (λ x. x < 2 ^ 30) (sym (generated_is c.args.top)) (generated-below c.args.top)
