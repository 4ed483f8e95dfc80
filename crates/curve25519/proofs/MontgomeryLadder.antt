-- The ladder in the form that the proofs use: two points, and no exchange that is put off.
use Rattle.std.proofs.Common.{ℕ, zero, suc, ◌+◌, ◌*◌, ◌/◌, ◌%◌}
use Rattle.curve25519.specs.Field.{prime}
use Rattle.curve25519.proofs.CurveConstants.{minus_one}
use Rattle.curve25519.proofs.PrimeField.{inverse}

-- two points of the Montgomery curve, X : Z for u = X / Z
pub record PointPair : Type 0 where
  pub x2 : ℕ
  pub z2 : ℕ
  pub x3 : ℕ
  pub z3 : ℕ

-- twice the point of which a = X + Z and b = X - Z
abbrev pub doubled_x : ℕ → ℕ → ℕ
doubled_x a b = a * a * (b * b)

abbrev pub doubled_z : ℕ → ℕ → ℕ
doubled_z a b = (a * a + minus_one * (b * b)) * (a * a + 121665 * (a * a + minus_one * (b * b)))

-- the sum of that point and of the one of which c = X + Z and f = X - Z, where u is the difference of both
abbrev pub added_x : ℕ → ℕ → ℕ → ℕ → ℕ
added_x a b c f = (f * a + c * b) * (f * a + c * b)

abbrev pub added_z : ℕ → ℕ → ℕ → ℕ → ℕ → ℕ
added_z u a b c f = u * ((f * a + minus_one * (c * b)) * (f * a + minus_one * (c * b)))

-- a step where the bit is 0: P and Q become 2 P and P + Q
abbrev pub doubled_and_added : ℕ → PointPair → PointPair
doubled_and_added u s = record {
  x2 = doubled_x (s.x2 + s.z2) (s.x2 + minus_one * s.z2) % prime;
  z2 = doubled_z (s.x2 + s.z2) (s.x2 + minus_one * s.z2) % prime;
  x3 = added_x (s.x2 + s.z2) (s.x2 + minus_one * s.z2) (s.x3 + s.z3) (s.x3 + minus_one * s.z3) % prime;
  z3 = added_z u (s.x2 + s.z2) (s.x2 + minus_one * s.z2) (s.x3 + s.z3) (s.x3 + minus_one * s.z3) % prime;
}

abbrev pub exchanged : PointPair → PointPair
exchanged s = record { x2 = s.x3; z2 = s.z3; x3 = s.x2; z3 = s.z2 }

-- a step: where the bit is 1, P and Q become P + Q and 2 Q
abbrev pub pair_step : ℕ → ℕ → PointPair → PointPair
pair_step u zero s = doubled_and_added u s
pair_step u (suc b) s = exchanged (doubled_and_added u (exchanged s))

-- the pair after the steps for the low n bits of k, the highest of them first
unfoldable pub pair_after : ℕ → ℕ → ℕ → PointPair
pair_after u zero k = record { x2 = 1; z2 = 0; x3 = u; z3 = 1 }
pair_after u (suc n) k = pair_step u (k % 2) (pair_after u n (k / 2))

abbrev pub affine_u : PointPair → ℕ
affine_u s = (s.x2 * inverse s.z2) % prime

-- k times the point of this u-coordinate, by 255 steps
unfoldable pub scalar_multiple : ℕ → ℕ → ℕ
scalar_multiple k u = affine_u (pair_after u 255 k)
