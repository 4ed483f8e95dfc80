use Rattle.std.proofs.Common.{◌<◌, ◌^◌, sym, subst}
use Rattle.age_bech32.proofs.Remainders.{step_is, step-below}
use Rattle.age_bech32.proofs.checksum.step.Goals as goal

pub returns-clause-value : goal.returns-clause-value
returns-clause-value c = step_is c.args.sum c.args.value c.from.result c.generated.result c.from.ensures c.generated.ensures.value

pub returns-clause-bound : goal.returns-clause-bound
returns-clause-bound c =
    subst (λ x. x < 2 ^ 30) (sym (step_is c.args.sum c.args.value c.from.result c.generated.result c.from.ensures c.generated.ensures.value))
    (step-below c.args.sum c.args.value c.requires.value)
