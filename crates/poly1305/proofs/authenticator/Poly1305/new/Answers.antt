use Rattle.std.proofs.Common.{◌∙◌, refl, ap, drop, arith, length-drop}
use Rattle.std.proofs.lemmas.List.{take_all}
use Rattle.std.specs.Int.{w128, from_le_bytes}
use Rattle.poly1305.specs.Mac.{accumulated}
use Rattle.poly1305.proofs.authenticator.Poly1305.new.Goals as goal

pub returns : goal.returns
unfolding accumulated
returns c = record {
  factor = c.clamped.ensures.value;
  summand = c.number.ensures
      ∙ ap (λ half. from_le_bytes w128 half) (take_all 16 (drop 16 c.args.key.now) (rw length-drop (omega arith)));
  whole = refl;
  count = refl;
  begun = refl;
}
