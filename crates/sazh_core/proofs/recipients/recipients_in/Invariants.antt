use Rattle.std.proofs.Common.{map, take}
use Rattle.sazh_core.specs.Recipients.{AreRecipients}
use Rattle.sazh_core.proofs.recipients.recipients_in.Given as goal

-- the recipients of the lines so far
abbrev pub invariant-loop-i : goal.invariant-loop-i
invariant-loop-i g l = AreRecipients (map (λ line. line.now) (take l.i l.fn.lines)) l.recipients.items
