use Rattle.std.proofs.Common.{subst}
use Rattle.std.proofs.lemmas.Result.{on_ok_weaker, IfErr-weaker}
use Rattle.std.specs.Prelude.{IfErr}
use Rattle.age_stream.specs.Keeping.{OwnOrInner, IsReadRefusal}
use Rattle.age_stream.proofs.Stepping.{holds-passed, opens-passed, refuses-passed, says-passed}
use Rattle.age_stream.proofs.reader.StreamReader.hold.Goals as goal

pub returns-clause-holds : goal.returns-clause-holds
returns-clause-holds g c =
    on_ok_weaker c.open.result (holds-passed c.args.self.now c.pass.new.self c.open.new.self c.pass.ensures.passes c.pass.ensures.holding)
    c.open.ensures.holds

pub returns-clause-refused : goal.returns-clause-refused
returns-clause-refused g c =
    IfErr-weaker c.open.result _ _ (refuses-passed c.args.self.now c.pass.new.self c.open.new.self c.pass.ensures.passes c.pass.ensures.holding)
    c.open.ensures.refused

pub returns-clause-opens : goal.returns-clause-opens
returns-clause-opens g c =
    opens-passed c.args.self.now c.pass.new.self c.open.new.self c.pass.ensures.passes c.pass.ensures.holding c.open.result c.pass.ensures.spared
    c.open.ensures.opens

pub returns-clause-names : goal.returns-clause-names
returns-clause-names g c =
    subst (λ s. IfErr c.open.result (OwnOrInner g.R.Read IsReadRefusal s.inner)) c.pass.ensures.passes.source c.open.ensures.names

pub returns-clause-says : goal.returns-clause-says
returns-clause-says g c =
    IfErr-weaker c.open.result _ _ (says-passed c.args.self.now c.pass.new.self c.open.new.self c.pass.ensures.passes c.pass.ensures.holding)
    c.open.ensures.says
