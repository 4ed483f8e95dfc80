use Rattle.std.proofs.Common.{◌∙◌, ap, inl, refl, sym}
use Rattle.std.specs.Ordering.{is_le}
use Rattle.age_identity.proofs.Named.{greater_other, itself, not_greater}
use Rattle.age_identity.proofs.identity.lesser.Goals as goal

pub returns-in-Greater-clause-first : goal.returns-in-Greater-clause-first
returns-in-Greater-clause-first c = greater_other c.args.first.now c.args.second.now (sym c.cmp.ensures ∙ c.in-Greater.is)

pub returns-in-Greater-clause-second : goal.returns-in-Greater-clause-second
returns-in-Greater-clause-second c = itself c.args.second.now

pub returns-in_default : goal.returns-in_default
returns-in_default c = record {
  first = itself c.args.first.now;
  second = ap is_le (sym c.cmp.ensures) ∙ not_greater c.cmp.result c.in_default.not-Greater;
  one = inl refl;
}
