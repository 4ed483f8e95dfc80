use Rattle.sazh_core.proofs.Added.{line_found, line_passed}
use Rattle.sazh_core.proofs.recipients.add_line.Goals as goal

pub returns-then-is_passed_over : goal.returns-then-is_passed_over
returns-then-is_passed_over g c = λ before good. line_passed before _ _ good (c.is_passed_over.ensures.yes c.if-is_passed_over.true)

pub returns-in_ok-push-in-Ok : goal.returns-in_ok-push-in-Ok
returns-in_ok-push-in-Ok g c = λ before good. rw c.in_ok-push-in-Ok.ensures.items (line_found before _ _ _ good c.in-Ok.ensures)
