-- The bits of a number, in its bytes.
use Rattle.std.proofs.Common.{◌≡◌, ℕ, suc, ◌+◌, ◌-◌, ◌*◌, ◌/◌, ◌%◌, ◌^◌, ◌<◌, List, [], ◌∷◌, All, get_or, inl, inr, sym, ap, ap₂, ◌∙◌, arith}
use Rattle.std.proofs.Math.Nat.{zero-div, add-mul-div_left, add-mul-mod_self_left, div-div-eq-div-mul}
use Rattle.std.proofs.lemmas.Bool.{cases_lt}
use Rattle.std.proofs.lemmas.Nat.{pow-add, pow_pos}
use Rattle.std.proofs.lemmas.List.Elements.{All-head, All-tail}
use Rattle.curve25519.specs.Encoding.{decode_little_endian}

-- a bit of the low byte
low_bit : (x n t : ℕ) → t < 8 → (x + 256 * n) / 2 ^ t % 2 ≡ x / 2 ^ t % 2
low_bit x n t h =
    let rest = 2 ^ (7 - t) in
    let two : 2 ^ (t + ((7 - t) + 1)) ≡ 2 ^ t * 2 ^ ((7 - t) + 1) = pow-add 2 t ((7 - t) + 1) in
    let one : 2 ^ ((7 - t) + 1) ≡ 2 ^ (7 - t) * 2 ^ 1 = pow-add 2 (7 - t) 1 in
    let eight : t + ((7 - t) + 1) ≡ 8 = omega arith in
    let whole : 2 ^ 8 ≡ 2 ^ t * (2 ^ (7 - t) * 2 ^ 1) = ap (λ k. 2 ^ k) (sym eight) ∙ two ∙ ap (λ k. 2 ^ t * k) one in
    let split : x + 256 * n ≡ x + 2 ^ t * (2 * (2 ^ (7 - t) * n)) = omega (arith, ap (λ k. k * n) whole) in
    ap (λ k. k / 2 ^ t % 2) split
    ∙ ap (λ k. k % 2) (add-mul-div_left x (2 * (2 ^ (7 - t) * n)) (pow_pos t))
    ∙ add-mul-mod_self_left (x / 2 ^ t) 2 (2 ^ (7 - t) * n)

-- a bit of the other bytes
high_bit : (x n t s : ℕ) → x < 2 ^ 8 → t ≡ 8 + s → (x + 256 * n) / 2 ^ t % 2 ≡ n / 2 ^ s % 2
high_bit x n t s lt e =
    let p : 2 ^ t ≡ 256 * 2 ^ s = ap (λ k. 2 ^ k) e ∙ pow-add 2 8 s in
    let q : (x + 256 * n) / 256 ≡ n = omega arith in
    ap (λ k. (x + 256 * n) / k % 2) p ∙ ap (λ k. k % 2) (sym (div-div-eq-div-mul (x + 256 * n) 256 (2 ^ s)) ∙ ap (λ k. k / 2 ^ s) q)

-- bit t of the number is bit t % 8 of byte t / 8
pub bit_of_decoded : (xs : List ℕ) (t : ℕ) → All (λ x. x < 2 ^ 8) xs → decode_little_endian xs / 2 ^ t % 2 ≡ get_or xs (t / 8) 0 / 2 ^ (t % 8) % 2
unfolding decode_little_endian
bit_of_decoded [] t h = ap (λ k. k % 2) (zero-div (2 ^ t) ∙ sym (zero-div (2 ^ (t % 8))))
bit_of_decoded (x ∷ xs) t h =
    elim (cases_lt t 8) [
      | inl lt ↦
          let q : t / 8 ≡ 0 = omega arith in
          let r : t % 8 ≡ t = omega arith in
          low_bit x (decode_little_endian xs) t lt ∙ ap₂ (λ i s. get_or (x ∷ xs) i 0 / 2 ^ s % 2) (sym q) (sym r)
      | inr ge ↦
          let q : t / 8 ≡ suc ((t - 8) / 8) = omega arith in
          let r : t % 8 ≡ (t - 8) % 8 = omega arith in
          let e : t ≡ 8 + (t - 8) = omega arith in
          high_bit x (decode_little_endian xs) t (t - 8) (All-head (λ x. x < 2 ^ 8) x xs h) e
          ∙ bit_of_decoded xs (t - 8) (All-tail (λ x. x < 2 ^ 8) x xs h)
          ∙ ap₂ (λ i s. get_or (x ∷ xs) i 0 / 2 ^ s % 2) (sym q) (sym r)
    ]
