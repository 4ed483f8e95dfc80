use Rattle.std.proofs.Common.{◌≡◌, ◌+◌, ◌%◌, ◌++◌, length, take, ap, sym, arith, ◌∙◌}
use Rattle.poly1305.specs.Mac.{block_number, clamped}
use Rattle.poly1305.proofs.Accumulating.{accumulated_filled, count_filled, rest_filled, rest_of_whole, step}
use Rattle.poly1305.proofs.authenticator.Poly1305.take_block.Goals as goal

pub returns-clause-given : goal.returns-clause-given
returns-clause-given c = λ key text given.
    let block = c.args.block.now in
    let whole : length text % 16 ≡ 0 = sym given.count ∙ c.requires.unbegun in
    let fills : length text % 16 + length block ≡ 16 = omega (arith, whole, c.requires.whole) in
    let number = c.whole_block.ensures.value ∙ ap (λ rest. block_number (rest ++ block)) (sym (rest_of_whole text whole)) in
    record {
      factor = given.factor;
      summand = given.summand;
      whole = step _ _ _ _ _ _ _ c.absorbed-self.ensures.value given.whole number given.factor
          ∙ sym (accumulated_filled text block (clamped (take 16 key)) fills);
      count = c.requires.unbegun ∙ count_filled text block fills;
      begun = ap (λ n. take n c.args.self.now.block) c.requires.unbegun ∙ rest_filled text block fills;
    }
