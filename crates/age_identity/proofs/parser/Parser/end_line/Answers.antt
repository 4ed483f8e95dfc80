use Rattle.std.proofs.Common.{◌≡◌, ◌+◌, arith, inl, inr, refl}
use Rattle.std.specs.Str.Lines.{lines, strip_carriage_return}
use Rattle.age_identity.proofs.Steps.{at_line, bad_line, few_lines}
use Rattle.age_identity.proofs.parser.Parser.end_line.Goals as goal

pub returns-in-Err : goal.returns-in-Err
returns-in-Err g c = λ text short here.
    let few = few_lines c.args.self text short here in
    let next : c.saturating_add-number.result ≡ c.args.self.finished + 1 = omega (arith, few, c.saturating_add-number.ensures) in
    elim (c.in-Err.ensures (lines here.done) (strip_carriage_return here.last) here.good (c.in-Ok.ensures here.last here.kept)) [
      | inl memory ↦ inl memory
      | inr bad ↦ inr (
        c.saturating_add-number.result,
        bad.0,
        inr
            (text, refl),
        bad_line c.args.self c.saturating_add-number.result text here next bad.1,
      )
    ]

pub returns-in-Ok-add : goal.returns-in-Ok-add
returns-in-Ok-add g c = λ text short here.
    let few = few_lines c.args.self text short here in
    let next : c.saturating_add-number.result ≡ c.args.self.finished + 1 = omega (arith, few, c.saturating_add-number.ensures) in
    at_line c.args.self _ text short here
    (c.in-Ok-add.ensures (lines here.done) (strip_carriage_return here.last) here.good (c.in-Ok.ensures here.last here.kept)) next c.new.ensures
