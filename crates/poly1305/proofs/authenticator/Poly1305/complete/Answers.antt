use Rattle.std.proofs.Common.{◌≡◌, ◌+◌, ◌%◌, ◌++◌, length, take, ap, sym, ◌∙◌}
use Rattle.poly1305.specs.Mac.{block_number, clamped}
use Rattle.poly1305.proofs.Accumulating.{accumulated_filled, count_filled, rest_filled, step}
use Rattle.poly1305.proofs.authenticator.Poly1305.complete.Goals as goal

pub returns-clause-given : goal.returns-clause-given
returns-clause-given c = λ key text given.
    let bytes = c.args.bytes.now in
    let fills : length text % 16 + length bytes ≡ 16 = ap (λ n. n + length bytes) (sym given.count) ∙ c.requires in
    let block = c.completed-block.ensures ∙ ap (λ l. l ++ bytes) given.begun in
    let number = c.whole_block.ensures.value ∙ ap block_number block in
    record {
      factor = given.factor;
      summand = given.summand;
      whole = step _ _ _ _ _ _ _ c.absorbed-self.ensures.value given.whole number given.factor
          ∙ sym (accumulated_filled text bytes (clamped (take 16 key)) fills);
      count = count_filled text bytes fills;
      begun = rest_filled text bytes fills;
    }
