use Rattle.std.proofs.Common.{◌≤◌, ◌+◌, ◌*◌, ◌^◌, ◌≡◌, ◌%◌, ◌∙◌, ap, bit_or, arith}
use Rattle.std.proofs.lemmas.Nat.{or_shifted, shl_whole}
use Rattle.age_bech32.proofs.groups.joined.Goals as goal

pub returns : goal.returns
returns c =
    let few : 8 + c.args.bits ≤ 32 = omega arith in
    let whole : c.args.held * 2 ^ c.args.bits % 2 ^ 32 ≡ c.args.held * 2 ^ c.args.bits = shl_whole c.args.held 8 c.args.bits 32 c.requires.held few in
    ap (λ x. bit_or x c.from.result) whole ∙ ap (λ x. bit_or (c.args.held * 2 ^ c.args.bits) x) c.from.ensures
    ∙ or_shifted c.args.held c.args.bits c.args.digit c.requires.digit
