use Rattle.age_error.specs.declared.io.ArmoredReadError.TheVariants.{InvalidUtf8}
use Rattle.age_v1.specs.ArmorLineVerdict.{Refuses, columns_verdict, line_columns, verdict}
use Rattle.age_v1.proofs.ArmorLineVerdicts.{passes_to, verdict_is}
use Rattle.age_armor.proofs.Testing.{judged_by}
use Rattle.age_armor.proofs.judging.judge.Goals as goal

pub returns-in-Ok : goal.returns-in-Ok
returns-in-Ok c =
    let raw = c.args.raw.now in
    judged_by (columns_verdict c.args.after_short (line_columns raw)) (verdict c.args.after_short raw) _ _ c.judge_columns.result
    (passes_to c.args.after_short raw c.in-Ok.ensures.cases.1)
    (rw c.columns_of.ensures at c.judge_columns.ensures)

pub returns-in-Err : goal.returns-in-Err
returns-in-Err c = verdict_is c.args.after_short c.args.raw.now (Refuses InvalidUtf8) c.in-Err.ensures.cases.0
