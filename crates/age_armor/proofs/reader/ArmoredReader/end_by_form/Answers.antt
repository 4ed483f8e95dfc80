use Rattle.std.proofs.Common.{◌∙◌}
use Rattle.age_armor.proofs.Going.{jumped-to-end}
use Rattle.age_armor.proofs.Resuming.{is_plain}
use Rattle.age_armor.proofs.Keeping.{stands_inside}
use Rattle.age_armor.proofs.reader.ArmoredReader.end_by_form.Goals as goal

pub returns-then-is_binary-clause-end : goal.returns-then-is_binary-clause-end
returns-then-is_binary-clause-end g c =
    let before = c.args.self.now in
    let new = c.jump_to_end.new.self in
    let now = c.jump_to_end.ensures in
    jumped-to-end g.R.Seek.seek_refuses before new c.jump_to_end.result now.below now.unspent now.origin now.text now.stands
    (λ told steady. stands_inside new (now.below.same.tells ∙ told) (now.below.same.steady ∙ steady)) now.end now.knows now.fails now.cause

pub returns-else-is_binary-clause-lands : goal.returns-else-is_binary-clause-lands
returns-else-is_binary-clause-lands g c = λ told steady plain begun.
    let before = c.args.self.now in
    absurd (is_plain before.stage begun (((before.sound.text told steady).form begun).same ∙ plain) (c.is_binary.ensures.no c.if-is_binary.false))
