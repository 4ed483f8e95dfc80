use Rattle.age_armor.proofs.AheadLines.{ahead_wider}
use Rattle.age_armor.proofs.gathering.decode_first.Goals as goal

pub returns : goal.returns
returns c = ahead_wider c.decode_front.new.bytes _ c.args.front.now c.decode_front.result c.decode_front.ensures.ahead
