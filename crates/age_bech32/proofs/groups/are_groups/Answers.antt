use Rattle.std.proofs.Common.{◌≡◌, ◌-◌, ◌*◌, ◌%◌, ◌^◌, ◌<◌, ◌∙◌, length, get_or, ap, sym, arith}
use Rattle.std.proofs.lemmas.Bool.{eqb-true, eqb-false}
use Rattle.age_bech32.specs.Symbols.{values_of}
use Rattle.age_bech32.proofs.Spelling.{values-size, values-fit, value-at}
use Rattle.age_bech32.proofs.Regrouping.{many_unused, no_groups_at_all, judged}
use Rattle.age_bech32.proofs.groups.are_groups.Goals as goal

pub returns-then-unused-gt4 : goal.returns-then-unused-gt4
returns-then-unused-gt4 c =
    let size = values-size c.args.symbols.now in
    many_unused (values_of c.args.symbols.now) (omega arith)

pub returns-then-is_empty : goal.returns-then-is_empty
returns-then-is_empty c =
    no_groups_at_all (values_of c.args.symbols.now)
    (values-size c.args.symbols.now ∙ eqb-true (length c.args.symbols.now) 0 (sym c.is_empty.ensures ∙ c.if-is_empty.true))
    (values-fit c.args.symbols.now c.requires)

pub returns : goal.returns
returns c =
    let mid = length c.args.symbols.now - 1 in
    let unused = length c.args.symbols.now % 8 * 5 % 8 in
    let size = values-size c.args.symbols.now in
    let some = eqb-false (length c.args.symbols.now) 0 (sym c.is_empty.ensures ∙ c.if-is_empty.false) in
    let within : mid < length c.args.symbols.now = omega arith in
    let last : c.last_bits.result ≡ get_or (values_of c.args.symbols.now) mid 0 % 2 ^ unused =
    c.last_bits.ensures ∙ ap (λ v. v % 2 ^ unused) (c.from.ensures ∙ c.known_value-last.ensures ∙ sym (value-at c.args.symbols.now mid within)) in
    judged (values_of c.args.symbols.now) mid unused c.last_bits.result (values-fit c.args.symbols.now c.requires) (omega arith)
    (omega arith) c.if-unused-gt4.false last
