use Rattle.std.proofs.Common.{◌≡◌, ◌∙◌, sym, arith, eqb, slice_index, false}
use Rattle.sazh_command.proofs.Numbers.{number}
use Rattle.sazh_command.proofs.number.parse_number.Goals as goal

pub returns : goal.returns
returns c =
    let word = c.args.word.now in
    let first : eqb (slice_index word 0) 43 ≡ false =
    sym (c.starts_with.ensures.byte (omega arith) (omega arith) (λ w o found. found)) ∙ c.if-starts_with.false in
    c.ok.ensures.value ∙ number word _ c.parse.ensures.value.0 first
