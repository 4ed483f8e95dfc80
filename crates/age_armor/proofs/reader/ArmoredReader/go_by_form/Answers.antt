use Rattle.std.proofs.Common.{◌∙◌, arith, inl, inr}
use Rattle.std.proofs.lemmas.Bool.{cases_Bool}
use Rattle.std.proofs.lemmas.Result.{IfOk-weaker, on_ok_weaker}
use Rattle.age_armor.specs.Stages.{is_start}
use Rattle.age_armor.proofs.Keeping.{on_if}
use Rattle.age_armor.proofs.Resuming.{is_plain}
use Rattle.age_armor.proofs.reader.ArmoredReader.go_by_form.Goals as goal

pub returns-then-is_binary-clause-lines : goal.returns-then-is_binary-clause-lines
returns-then-is_binary-clause-lines g c = λ told steady noting near.
    on_ok_weaker c.jump.result (λ good. omega (arith, c.jump.ensures.lines)) c.jump.ensures.goes.reaches.stands.good

pub returns-then-is_binary-clause-unread : goal.returns-then-is_binary-clause-unread
returns-then-is_binary-clause-unread g c = λ zero. on_ok_weaker c.jump.result (λ good. c.jump.ensures.lines) c.jump.ensures.goes.reaches.stands.good

pub returns-else-is_binary-clause-unread : goal.returns-else-is_binary-clause-unread
returns-else-is_binary-clause-unread g c = λ zero. on_if c.go_along.result _ _ (λ n both. both.0) (c.go_along.ensures.front zero)

pub returns-else-is_binary-clause-lands : goal.returns-else-is_binary-clause-lands
returns-else-is_binary-clause-lands g c = λ told steady plain front.
    let before = c.args.self.now in
    elim (cases_Bool (is_start before.stage)) [
      | inl start ↦ IfOk-weaker c.go_along.result _ _ (λ n both. both.1) (c.go_along.ensures.front (front start))
      | inr begun ↦ absurd (is_plain before.stage begun (((before.sound.text told steady).form begun).same ∙ plain)
          (c.is_binary.ensures.no c.if-is_binary.false))
    ]
