use Rattle.std.proofs.Common.{inr}
use Rattle.sazh_core.proofs.KeyFiles.{match_weaker}
use Rattle.sazh_core.proofs.keyring.holders_in.Goals as goal

pub returns-in-Err-NotIdentity : goal.returns-in-Err-NotIdentity
returns-in-Err-NotIdentity g c =
    match_weaker c.holders_of_protected.result c.holders_of_protected.ensures
    (λ holders held. inr (
      (
        c.in-Err-NotIdentity.line,
        rw (c.deref.ensures.value, c.in-Err-NotIdentity.field-0-is) at c.in-Err-NotIdentity.ensures,
      ),
      held,
    ))
    (λ e refused. inr (inr (inr (
      c.in-Err-NotIdentity.line,
      rw (c.deref.ensures.value, c.in-Err-NotIdentity.field-0-is) at c.in-Err-NotIdentity.ensures,
      refused,
    ))))
