use Rattle.std.proofs.Common.{◌-◌, ◌∙◌, ap, bit_and}
use Rattle.std.proofs.lemmas.Nat.{and_mask, one_shl}
use Rattle.age_bech32.proofs.groups.last_bits.Goals as goal

pub returns : goal.returns
returns c = ap (λ x. bit_and c.args.held (x - 1)) (one_shl c.args.count 32 c.requires) ∙ and_mask c.args.held c.args.count
