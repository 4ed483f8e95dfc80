-- The loop of the definition, which puts exchanges off, gives the pair of points of the ladder that the proofs use.
use Rattle.std.proofs.Common.{◌≡◌, ℕ, zero, suc, ◌+◌, ◌-◌, ◌*◌, ◌/◌, ◌%◌, ◌^◌, ◌<◌, List, sym, ap, ap₂, refl, ◌∙◌, arith, add-suc, suc-add, mod-lt}
use Rattle.std.proofs.Math.Nat.{div-div-eq-div-mul, pow-suc}
use Rattle.std.specs.Int.{bit_at}
use Rattle.curve25519.specs.Field.{prime, sum, difference, square, field_power}
use Rattle.curve25519.specs.X25519.{LadderState, a24, conditional_swap, initial_state, ladder_step, ladder, returned, scalar_multiplication, x25519}
use Rattle.curve25519.specs.Encoding.{decode_scalar, decode_u_coordinate, encode_u_coordinate}
use Rattle.curve25519.proofs.Congruence.{congruent_product, congruent_product_right}
use Rattle.curve25519.proofs.CurveConstants.{minus_one}
use Rattle.curve25519.proofs.FieldOperations.{sum_of_congruent, difference_of_congruent, product_of_congruent, field_power-inverse}
use Rattle.curve25519.proofs.MontgomeryLadder.{PointPair, doubled_and_added, exchanged, pair_step, pair_after, affine_u, scalar_multiple}
use Rattle.curve25519.proofs.PrimeField.{inverse}

-- the two points of a state, after the exchange that was put off
abbrev pub points_of : LadderState → PointPair
points_of state =
    let x = conditional_swap state.swap state.x_2 state.x_3 in
    let z = conditional_swap state.swap state.z_2 state.z_3 in
    record { x2 = x.0; z2 = z.0; x3 = x.1; z3 = z.1 }

abbrev pair : ℕ → ℕ → ℕ → ℕ → PointPair
pair a b c d = record { x2 = a; z2 = b; x3 = c; z3 = d }

abbrev state_of : ℕ → ℕ → ℕ → ℕ → ℕ → LadderState
state_of a b c d swap = record { x_2 = a; z_2 = b; x_3 = c; z_3 = d; swap = swap }

same_pair : (a b c d a' b' c' d' : ℕ) → a ≡ a' → b ≡ b' → c ≡ c' → d ≡ d' → pair a b c d ≡ pair a' b' c' d'
same_pair a b c d a' b' c' d' ha hb hc hd = ap₂ (λ x y. pair x y c d) ha hb ∙ ap₂ (λ x y. pair a' b' x y) hc hd

-- a step with no exchange, before or after
plain_step : (u a b c d : ℕ) → points_of (ladder_step u 0 (state_of a b c d 0)) ≡ doubled_and_added u (pair a b c d)
plain_step u a b c d =
    let A = sum_of_congruent a b a b refl refl in
    let B = difference_of_congruent a b a b refl refl in
    let AA = product_of_congruent (sum a b) (sum a b) (a + b) (a + b) A A in
    let BB = product_of_congruent (difference a b) (difference a b) (a + minus_one * b) (a + minus_one * b) B B in
    let E = difference_of_congruent _ _ _ _ AA BB in
    let C = sum_of_congruent c d c d refl refl in
    let D = difference_of_congruent c d c d refl refl in
    let DA = product_of_congruent (difference c d) (sum a b) (c + minus_one * d) (a + b) D A in
    let CB = product_of_congruent (sum c d) (difference a b) (c + d) (a + minus_one * b) C B in
    let P = sum_of_congruent _ _ _ _ DA CB in
    let M = difference_of_congruent _ _ _ _ DA CB in
    let MM = product_of_congruent _ _ _ _ M M in
    let small = product_of_congruent a24 (difference (square (sum a b)) (square (difference a b))) a24 _ refl E in
    let both = sum_of_congruent _ _ _ _ AA small in
    same_pair _ _ _ _ _ _ _ _
    (congruent_product prime _ _ _ _ AA BB)
    (congruent_product prime _ _ _ _ E both)
    (congruent_product prime _ _ _ _ P P)
    (congruent_product_right prime u _ _ MM)

-- a step, by whether an exchange was put off and whether the bit is 1
step_cases : (u k_t swap a b c d : ℕ) → k_t < 2 → swap < 2
    → points_of (ladder_step u k_t (state_of a b c d swap)) ≡ pair_step u k_t (points_of (state_of a b c d swap))
step_cases u zero zero a b c d hk hs = plain_step u a b c d
step_cases u zero (suc zero) a b c d hk hs = plain_step u c d a b
step_cases u (suc zero) zero a b c d hk hs = ap exchanged (plain_step u c d a b)
step_cases u (suc zero) (suc zero) a b c d hk hs = ap exchanged (plain_step u a b c d)
step_cases u (suc (suc k_t)) swap a b c d hk hs = absurd (omega arith)
step_cases u zero (suc (suc swap)) a b c d hk hs = absurd (omega arith)
step_cases u (suc zero) (suc (suc swap)) a b c d hk hs = absurd (omega arith)

points_of_step : (u k_t : ℕ) (state : LadderState) → k_t < 2 → state.swap < 2
    → points_of (ladder_step u k_t state) ≡ pair_step u k_t (points_of state)
points_of_step u k_t state hk hs = step_cases u k_t state.swap state.x_2 state.z_2 state.x_3 state.z_3 hk hs

-- a step more of the ladder on pairs
pair_after_bit : (u m k t : ℕ) → pair_after u (suc m) (k / 2 ^ t) ≡ pair_step u (bit_at k t) (pair_after u m (k / 2 ^ suc t))
unfolding pair_after
pair_after_bit u m k t =
    let half : k / 2 ^ t / 2 ≡ k / 2 ^ suc t = div-div-eq-div-mul k (2 ^ t) 2 ∙ ap (λ n. k / n) (sym (pow-suc 2 t)) in
    ap (λ n. pair_step u (k / 2 ^ t % 2) (pair_after u m n)) half

-- t bits are left, and m were taken
points_of_ladder : (u k t m : ℕ) (state : LadderState) → state.swap < 2 → points_of state ≡ pair_after u m (k / 2 ^ t)
    → points_of (ladder k u t state) ≡ pair_after u (m + t) k
unfolding ladder
points_of_ladder u k zero m state hs h = h ∙ ap₂ (pair_after u) (omega arith) (omega arith)
points_of_ladder u k (suc t) m state hs h =
    let bit : bit_at k t < 2 = mod-lt (k / 2 ^ t) (omega arith) in
    points_of_ladder u k t (suc m) (ladder_step u (bit_at k t) state) bit
    (points_of_step u (bit_at k t) state bit hs ∙ ap (pair_step u (bit_at k t)) h ∙ sym (pair_after_bit u m k t))
    ∙ ap (λ n. pair_after u n k) (suc-add m t ∙ sym (add-suc m t))

points_of_initial : (u k : ℕ) → points_of (initial_state u) ≡ pair_after u 0 k
unfolding pair_after
points_of_initial u k = refl

returned_affine : (state : LadderState) → returned state ≡ affine_u (points_of state)
returned_affine state =
    let points = points_of state in
    congruent_product_right prime points.x2 (field_power points.z2 (prime - 2)) (inverse points.z2) (field_power-inverse points.z2)

-- scalar multiplication as the RFC has it is that of the proofs
pub scalar_multiplication-multiple : (k u : ℕ) → scalar_multiplication k u ≡ scalar_multiple k u
unfolding scalar_multiplication scalar_multiple
scalar_multiplication-multiple k u =
    returned_affine (ladder k u 255 (initial_state u))
    ∙ ap affine_u (points_of_ladder u k 255 0 (initial_state u) (omega arith) (points_of_initial u (k / 2 ^ 255)))

-- and so X25519 is computed by that ladder
pub x25519-multiple : (k u : List ℕ) → x25519 k u ≡ encode_u_coordinate (scalar_multiple (decode_scalar k) (decode_u_coordinate u))
unfolding x25519
x25519-multiple k u = ap encode_u_coordinate (scalar_multiplication-multiple (decode_scalar k) (decode_u_coordinate u))
