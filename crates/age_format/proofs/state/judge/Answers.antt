use Rattle.std.proofs.lemmas.Result.{IfOk-weaker}
use Rattle.age_format.proofs.States.{is_before}
use Rattle.age_format.proofs.state.judge.Goals as goal

pub returns-in-AfterBody : goal.returns-in-AfterBody
returns-in-AfterBody c =
    IfOk-weaker c.judge_after.result _ _ (λ j p text h lacks. p text
    (is_before c.args.legacy _ c.args.next.now text (rw c.in-AfterBody.is at h)) lacks) c.judge_after.ensures
