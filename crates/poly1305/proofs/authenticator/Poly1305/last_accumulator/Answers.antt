use Rattle.std.proofs.Common.{◌≢◌, ◌%◌, length, take, ap, sym, ◌∙◌}
use Rattle.poly1305.specs.Mac.{block_number, clamped}
use Rattle.poly1305.proofs.Accumulating.{accumulated_all, accumulated_last, step}
use Rattle.poly1305.proofs.authenticator.Poly1305.last_accumulator.Goals as goal

pub returns-then-self-eq0-clause-value : goal.returns-then-self-eq0-clause-value
returns-then-self-eq0-clause-value c = λ key text given.
    given.whole ∙ accumulated_all (clamped (take 16 key)) text (sym given.count ∙ c.if-self-eq0.true)

pub returns-else-self-eq0-clause-value : goal.returns-else-self-eq0-clause-value
returns-else-self-eq0-clause-value c = λ key text given.
    let short : length text % 16 ≢ 0 = λ none. c.if-self-eq0.false (given.count ∙ none) in
    let number = c.short_block.ensures.value ∙ ap block_number given.begun in
    step _ _ _ _ _ _ _ c.absorbed.ensures.value given.whole number given.factor
    ∙ sym (accumulated_last (clamped (take 16 key)) text short)
