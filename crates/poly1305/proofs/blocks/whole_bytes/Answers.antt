use Rattle.std.proofs.Common.{arith}
use Rattle.poly1305.proofs.Numbering.{number_of_whole}
use Rattle.poly1305.proofs.blocks.whole_bytes.Goals as goal

pub returns-clause-value : goal.returns-clause-value
returns-clause-value c =
    let number = c.limbs_of.ensures.value in
    omega (arith, number, number_of_whole c.args.block.now c.number.result c.requires c.number.ensures)
