use Rattle.age_identity.proofs.Judged.{no_text}
use Rattle.age_identity.proofs.judging.judge_text.Goals as goal

pub returns-in-None : goal.returns-in-None
returns-in-None g c =
    let none = rw c.in-None.is at c.in_ok-identity.ensures in
    no_text c.args.text.now c.requires c.in_default.ensures none
