use Rattle.std.proofs.Common.{arith}
use Rattle.poly1305.proofs.Clamping.{low_half, high_half, high_half_fourfold}
use Rattle.poly1305.proofs.blocks.clamped.Goals as goal

pub returns-clause-bits : goal.returns-clause-bits
returns-clause-bits c =
    let low = low_half c.number-bits.result in
    let high = high_half c.number-bits.result in
    (omega (arith, low), omega (arith, high), high_half_fourfold c.number-bits.result)
