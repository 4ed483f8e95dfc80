use Rattle.std.proofs.Common.{◌≡◌, take}
use Rattle.sazh_core.specs.OwnRecipients.{recipients_text}
use Rattle.sazh_core.proofs.own_recipients.text_of_recipients.Given as goal

-- the lines of the recipients so far
abbrev pub invariant-loop-i : goal.invariant-loop-i
invariant-loop-i g l = l.text.items ≡ recipients_text (take l.i l.fn.recipients)
