use Rattle.std.proofs.Common.{◌≡◌, get_or}
use Rattle.std.proofs.lemmas.List.{take_more}
use Rattle.sazh_core.proofs.Lined.{line_added}
use Rattle.sazh_core.proofs.own_recipients.text_of_recipients.Goals as goal

pub loop-i-preserved : goal.loop-i-preserved
loop-i-preserved g c =
    let one = c.index-recipients-i.result in
    let is : one ≡ get_or c.args.recipients.now c.loop-i.i one = c.index-recipients-i.is in
    rw (take_more c.args.recipients.now c.loop-i.i one c.loop-i-test.true, ← is, line_added, ← c.loop-i.invariant) c.in_ok-text.ensures
