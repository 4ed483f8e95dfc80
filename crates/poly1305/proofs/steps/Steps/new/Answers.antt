use Rattle.std.proofs.Common.{◌%◌, take, sym, ◌∙◌}
use Rattle.std.proofs.lemmas.List.{append-nil}
use Rattle.poly1305.specs.Mac.{clamped, prime}
use Rattle.poly1305.specs.Limbs.{number_of}
use Rattle.poly1305.specs.Groups.{IsAccumulator}
use Rattle.poly1305.proofs.Grouping.{scaled_first}
use Rattle.poly1305.proofs.steps.Steps.new.Goals as goal

pub with_product-requires-clause-by : goal.with_product-requires-clause-by
with_product-requires-clause-by c = c.args.powers.now.multipliers _ _ c.highest.ensures

pub returns-clause-taken : goal.returns-clause-taken
returns-clause-taken c = λ key text powers given.
    let r = clamped (take 16 key) in
    let before : IsAccumulator r (number_of c.args.state.now.accumulator % prime) text = record {
      whole = sym given.count ∙ c.requires;
      value = given.whole;
    } in
    record {
      scaled = rw append-nil (scaled_first r 32 _ _ _ _ text
          (powers.powers 32 _ c.highest.ensures) powers.beyond c.with_product.ensures.value before);
    }
