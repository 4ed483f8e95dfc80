use Rattle.std.proofs.Common.{◌-◌, ◌/◌, ◌++◌, length, take, ap, sym, arith, ◌∙◌}
use Rattle.poly1305.specs.Mac.{clamped}
use Rattle.poly1305.proofs.Accumulating.{rest_of_whole}
use Rattle.poly1305.proofs.Grouping.{scaled_last}
use Rattle.poly1305.proofs.authenticator.Poly1305.take_group.Goals as goal

pub returns-clause-given : goal.returns-clause-given
returns-clause-given c = λ key text group size given taken.
    let after = scaled_last (clamped (take 16 key)) (32 - length group / 16) _ _ (text ++ group) (omega (arith, size))
    c.carried-self.ensures.value taken.scaled in
    record {
      factor = given.factor;
      summand = given.summand;
      whole = after.value;
      count = c.requires.unbegun ∙ sym after.whole;
      begun = ap (λ n. take n c.args.self.now.block) c.requires.unbegun ∙ sym (rest_of_whole (text ++ group) after.whole);
    }
