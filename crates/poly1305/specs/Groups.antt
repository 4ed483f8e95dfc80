-- Groups of blocks, each absorbed in one step.
use Rattle.std.specs.Prelude.{◌≡◌, ℕ, zero, suc, ◌+◌, ◌-◌, ◌*◌, ◌/◌, ◌%◌, ◌^◌, ◌<◌, List, Some, length, slice_get}
use Rattle.poly1305.specs.declared.groups.Multiplier.{Multiplier}
use Rattle.poly1305.specs.declared.groups.ShortColumns.{ShortColumns}
use Rattle.poly1305.specs.declared.groups.ShortLimbs.{ShortLimbs}
use Rattle.poly1305.specs.Mac.{accumulated, prime}

-- the number that short limbs stand for
abbrev pub short_number : ShortLimbs → ℕ
short_number limbs = limbs.low + 2 ^ 44 * limbs.middle + 2 ^ 88 * limbs.high

-- how large short limbs are
abbrev pub AreShort : ShortLimbs → Type 0
AreShort limbs = (limbs.low < 2 ^ 44) × (limbs.middle < 2 ^ 44) × (limbs.high < 2 ^ 44)

-- the number that columns stand for
abbrev pub short_column_number : ShortColumns → ℕ
short_column_number columns = columns.low + 2 ^ 44 * columns.middle + 2 ^ 88 * columns.high

-- how large columns are
abbrev pub AreBelow : ℕ → ShortColumns → Type 0
AreBelow bound columns = (columns.low < bound) × (columns.middle < bound) × (columns.high < bound)

-- the number that a multiplier stands for
abbrev pub multiplier_number : Multiplier → ℕ
multiplier_number multiplier = short_number multiplier.low

-- the second part of a multiplier is 2^64 times the first
pub record IsMultiplier (multiplier : Multiplier) : Type 0 where
  pub low : AreShort multiplier.low
  pub middle : AreShort multiplier.middle
  pub shifted : short_number multiplier.middle % prime ≡ (2 ^ 64 * short_number multiplier.low) % prime

-- all in a list are multipliers
abbrev pub AreMultipliers : List Multiplier → Type 0
AreMultipliers multipliers = (i : ℕ) (multiplier : Multiplier) → slice_get multipliers i ≡ Some multiplier → IsMultiplier multiplier

-- they stand for powers of r, from its sixty-fourth down
abbrev pub ArePowers : ℕ → List Multiplier → Type 0
ArePowers r multipliers =
    (i : ℕ) (multiplier : Multiplier) → slice_get multipliers i ≡ Some multiplier → multiplier_number multiplier % prime ≡ r ^ (64 - i) % prime

-- 2^128 times each power of r, from this one down: what the bits beyond the bytes of so many blocks make
unfoldable pub bits_beyond : ℕ → ℕ → ℕ
bits_beyond r zero = 0
bits_beyond r (suc n) = 2 ^ 128 * r ^ suc n + bits_beyond r n

-- a text of whole blocks has this accumulator
pub record IsAccumulator (r accumulator : ℕ) (text : List ℕ) : Type 0 where
  pub whole : length text % 16 ≡ 0
  pub value : accumulator ≡ accumulated r text (length text / 16)

-- a number is, modulo the prime, the accumulator of a text of whole blocks, times a power of r, and the bits beyond the blocks to come
pub record IsScaled (r n number : ℕ) (text : List ℕ) : Type 0 where
  pub whole : length text % 16 ≡ 0
  pub value : number % prime ≡ (bits_beyond r n + accumulated r text (length text / 16) * r ^ n) % prime
