use Rattle.std.proofs.Common.{sym, ◌∙◌}
use Rattle.x25519.proofs.Bits.{bit_of_decoded}
use Rattle.x25519.proofs.encoding.scalar_bit.Goals as goal

pub returns : goal.returns
returns c = c.from.ensures ∙ sym (bit_of_decoded c.args.scalar.now c.args.t c.are_bytes.ensures)
