-- The function X25519 (RFC 7748, 5), and public keys (6.1). Variables have the RFC's names.
use Rattle.std.specs.Prelude.{ℕ, zero, suc, ◌-◌, List, ◌∷◌, bit_xor, replicate}
use Rattle.std.specs.Int.{bit_at}
use Rattle.curve25519.specs.Field.{prime, sum, difference, product, square, field_power}
use Rattle.curve25519.specs.Encoding.{decode_u_coordinate, decode_scalar, encode_u_coordinate}

-- the constant a24 is (486662 - 2) / 4
abbrev pub a24 : ℕ
a24 = 121665

-- the variables that a step of the loop changes
pub record LadderState : Type 0 where
  pub x_2 : ℕ
  pub z_2 : ℕ
  pub x_3 : ℕ
  pub z_3 : ℕ
  pub swap : ℕ

-- cswap(swap, a, b): both, exchanged where swap is 1
abbrev pub conditional_swap : (swap a b : ℕ) → ℕ × ℕ
conditional_swap zero a b = (a, b)
conditional_swap (suc swap) a b = (b, a)

-- the lines before the loop
abbrev pub initial_state : (u : ℕ) → LadderState
initial_state u = record {
  x_2 = 1;
  z_2 = 0;
  x_3 = u;
  z_3 = 1;
  swap = 0;
}

-- the body of the loop, of which x_1 is u and k_t a bit of k; above each line stands that of the RFC
abbrev pub ladder_step : (x_1 k_t : ℕ) → LadderState → LadderState
ladder_step x_1 k_t state =
    -- swap ^= k_t
    let swap = bit_xor state.swap k_t in
    -- (x_2, x_3) = cswap(swap, x_2, x_3)
    let x = conditional_swap swap state.x_2 state.x_3 in
    let x_2 = x.0 in
    let x_3 = x.1 in
    -- (z_2, z_3) = cswap(swap, z_2, z_3)
    let z = conditional_swap swap state.z_2 state.z_3 in
    let z_2 = z.0 in
    let z_3 = z.1 in
    -- A = x_2 + z_2
    let A = sum x_2 z_2 in
    -- AA = A^2
    let AA = square A in
    -- B = x_2 - z_2
    let B = difference x_2 z_2 in
    -- BB = B^2
    let BB = square B in
    -- E = AA - BB
    let E = difference AA BB in
    -- C = x_3 + z_3
    let C = sum x_3 z_3 in
    -- D = x_3 - z_3
    let D = difference x_3 z_3 in
    -- DA = D * A
    let DA = product D A in
    -- CB = C * B
    let CB = product C B in
    record {
      -- x_3 = (DA + CB)^2
      x_3 = square (sum DA CB);
      -- z_3 = x_1 * (DA - CB)^2
      z_3 = product x_1 (square (difference DA CB));
      -- x_2 = AA * BB
      x_2 = product AA BB;
      -- z_2 = E * (AA + a24 * E)
      z_2 = product E (sum AA (product a24 E));
      -- swap = k_t
      swap = k_t;
    }

-- For t = bits - 1 down to 0, where k_t = (k >> t) & 1
unfoldable pub ladder : (k x_1 bits : ℕ) → LadderState → LadderState
ladder k x_1 zero state = state
ladder k x_1 (suc t) state = ladder k x_1 t (ladder_step x_1 (bit_at k t) state)

-- the lines after the loop: the last exchange, and x_2 * (z_2^(p - 2))
abbrev pub returned : LadderState → ℕ
returned state =
    let x = conditional_swap state.swap state.x_2 state.x_3 in
    let z = conditional_swap state.swap state.z_2 state.z_3 in
    let x_2 = x.0 in
    let z_2 = z.0 in
    product x_2 (field_power z_2 (prime - 2))

-- the whole procedure on a scalar and a u-coordinate: the u-coordinate of k times a point whose u-coordinate is u
unfoldable pub scalar_multiplication : (k u : ℕ) → ℕ
scalar_multiplication k u = returned (ladder k u 255 (initial_state u))

-- X25519(k, u), of 32 bytes each: k and u are decoded, and the result is encoded
unfoldable pub x25519 : (k u : List ℕ) → List ℕ
x25519 k u = encode_u_coordinate (scalar_multiplication (decode_scalar k) (decode_u_coordinate u))

-- the u-coordinate 9 of the base point: a byte with value 9, followed by 31 zero bytes (6.1)
abbrev pub base_point : List ℕ
base_point = 9 ∷ replicate 31 0

-- K_A = X25519(a, 9) (6.1)
unfoldable pub public_key : (secret : List ℕ) → List ℕ
public_key secret = x25519 secret base_point
