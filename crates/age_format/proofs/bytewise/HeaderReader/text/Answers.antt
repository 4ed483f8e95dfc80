use Rattle.std.proofs.Common.{subst}
use Rattle.age_format.specs.Progress.{ReaderValue}
use Rattle.age_v1.specs.HeaderVerdict.{IsUndecided}
use Rattle.age_format.proofs.bytewise.HeaderReader.text.Goals as goal

pub returns-clause-undecided : goal.returns-clause-undecided
returns-clause-undecided c = subst (λ (r : ReaderValue). IsUndecided r.legacy r.text) c.self.view_is c.self.invariant.undecided
