use Rattle.std.proofs.Common.{◌/◌, ◌%◌, ◌++◌, length, take, ap, sym, ◌∙◌}
use Rattle.poly1305.specs.Mac.{accumulated, prime}
use Rattle.poly1305.specs.Limbs.{factor_number, number_of}
use Rattle.poly1305.specs.Groups.{IsAccumulator}
use Rattle.poly1305.proofs.Accumulating.{rest_of_whole}
use Rattle.poly1305.proofs.authenticator.Poly1305.take_groups.Goals as goal

pub returns-clause-given : goal.returns-clause-given
returns-clause-given c = λ key text given.
    let groups = c.args.groups.now in
    let state = c.args.self.now in
    let before : IsAccumulator (factor_number state.r) (number_of state.accumulator % prime) text = record {
      whole = sym given.count ∙ c.requires.unbegun;
      value = given.whole ∙ ap (λ r. accumulated r text (length text / 16)) (sym given.factor);
    } in
    let after = c.groups_absorbed-self.ensures.value text before in
    record {
      factor = given.factor;
      summand = given.summand;
      whole = after.value ∙ ap (λ r. accumulated r (text ++ groups) (length (text ++ groups) / 16)) given.factor;
      count = c.requires.unbegun ∙ sym after.whole;
      begun = ap (λ n. take n state.block) c.requires.unbegun ∙ sym (rest_of_whole (text ++ groups) after.whole);
    }
