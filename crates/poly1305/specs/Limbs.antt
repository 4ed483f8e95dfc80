-- Numbers in three limbs.
use Rattle.std.specs.Prelude.{◌≡◌, ℕ, ◌+◌, ◌*◌, ◌%◌, ◌^◌, ◌<◌}
use Rattle.poly1305.specs.declared.limbs.Columns.{Columns}
use Rattle.poly1305.specs.declared.limbs.Factor.{Factor}
use Rattle.poly1305.specs.declared.limbs.Limbs.{Limbs}

-- the number that limbs stand for
abbrev pub number_of : Limbs → ℕ
number_of limbs = limbs.low + 2 ^ 64 * limbs.middle + 2 ^ 128 * limbs.high

-- the number that the halves of a factor stand for
abbrev pub factor_number : Factor → ℕ
factor_number factor = factor.low + 2 ^ 64 * factor.high

-- the halves are those of a clamped number
abbrev pub IsFactor : Factor → Type 0
IsFactor factor = (factor.low < 2 ^ 60) × (factor.high < 2 ^ 60) × (factor.high % 4 ≡ 0)

-- the number that columns stand for
abbrev pub column_number : Columns → ℕ
column_number columns = columns.low + 2 ^ 64 * columns.middle + 2 ^ 128 * columns.high

-- how large the columns of a product are
abbrev pub AreBounded : Columns → Type 0
AreBounded columns = (columns.low < 2 ^ 126) × (columns.middle < 2 ^ 126 + 2 ^ 64) × (columns.high < 7 * 2 ^ 60)
