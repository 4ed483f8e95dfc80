-- Groups of blocks in one step, by powers of r.
use Rattle.std.proofs.Common.{◌≡◌, ◌≢◌, ℕ, suc, ◌+◌, ◌-◌, ◌*◌, ◌/◌, ◌%◌, ◌^◌, ◌<◌, ◌≤◌, List, ◌++◌, Some, length, take, drop, set, get_or, replicate, refl, sym, ap, subst, inl, inr, ◌∙◌, arith, add_assoc, mul_assoc, length-append, length-drop}
use Rattle.std.proofs.lemmas.Bool.{cases_lt}
use Rattle.std.proofs.lemmas.List.{append_assoc, get_or-set_same, get_or-set_other, get_or-replicate, length-replicate, length-set, length-take-le, take_all}
use Rattle.std.proofs.lemmas.Nat.{mul-mod_first}
use Rattle.std.proofs.lemmas.Option.{get_or_from_slice_get, slice_get-get_or, slice_get_within}
use Rattle.std.proofs.Math.Nat.{add-mul, add-zero, zero-add, mul-one, one-mul, pow-suc, pow-succ', pow-zero}
use Rattle.std.specs.Prelude.{slice_get}
use Rattle.poly1305.specs.declared.groups.Multiplier.{Multiplier}
use Rattle.poly1305.specs.Mac.{accumulated, block_number, prime}
use Rattle.poly1305.specs.Groups.{bits_beyond, IsAccumulator, IsScaled}
use Rattle.poly1305.proofs.Accumulating.{accumulated-mod, accumulated_whole, take_part}
use Rattle.poly1305.proofs.Multiplying.{congruent_product, congruent_sum}

-- the accumulator times a power of r, and the bits beyond all blocks
pub scaled_first : (r n h power beyond number : ℕ) (text : List ℕ) → power % prime ≡ r ^ n % prime → beyond % prime ≡ bits_beyond r n % prime
    → number % prime ≡ (beyond + h * power) % prime → IsAccumulator r (h % prime) text → IsScaled r n number text
scaled_first r n h power beyond number text is_power is_beyond is_number is = record {
  whole = is.whole;
  value = is_number ∙ congruent_sum beyond (h * power) (bits_beyond r n) (accumulated r text (length text / 16) * r ^ n) is_beyond
      (sym (mul-mod_first h power prime) ∙ congruent_product (h % prime) power (r ^ n) is_power ∙ ap (λ a. (a * r ^ n) % prime) is.value);
}

-- of the sum of an accumulator and a block a power of r is one of the next accumulator
same_power : (r n a m : ℕ) → a * r ^ suc n + m * r ^ suc n ≡ ((a + m) * r) * r ^ n
same_power r n a m = sym (add-mul a m (r ^ suc n)) ∙ ap (λ k. (a + m) * k) (pow-succ' r n) ∙ sym (mul_assoc (a + m) r (r ^ n))

-- the bit beyond a block's bytes joins them
bit_joins : (r n before m : ℕ) → bits_beyond r (suc n) + before * r ^ suc n + m * r ^ suc n
    ≡ bits_beyond r n + (before * r ^ suc n + (m + 2 ^ 128) * r ^ suc n)
unfolding bits_beyond
bit_joins r n before m = regrouped (r ^ suc n) (bits_beyond r n) before m
  where
    regrouped : (power beyond before m : ℕ) → 2 ^ 128 * power + beyond + before * power + m * power
        ≡ beyond + (before * power + (m + 2 ^ 128) * power)
    regrouped power beyond before m = omega arith

-- one more block, times the same power of r
scaled_more : (r n number power block next : ℕ) (text bytes : List ℕ) → length bytes ≡ 16 → block + 2 ^ 128 ≡ block_number bytes
    → power % prime ≡ r ^ suc n % prime → next % prime ≡ (number + block * power) % prime
    → IsScaled r (suc n) number text → IsScaled r n next (text ++ bytes)
scaled_more r n number power block next text bytes size is_block is_power is_next is =
    let before = accumulated r text (length text / 16) in
    let whole = block + 2 ^ 128 in
    record {
      whole = omega (arith, is.whole, size, length-append text bytes);
      value = is_next ∙ congruent_sum number (block * power) (bits_beyond r (suc n) + before * r ^ suc n) (block * r ^ suc n) is.value
          (congruent_product block power (r ^ suc n) is_power)
          ∙ ap (λ k. k % prime) (bit_joins r n before block ∙ ap (λ k. bits_beyond r n + k) (same_power r n before whole))
          ∙ congruent_sum (bits_beyond r n) (((before + whole) * r) * r ^ n) (bits_beyond r n)
          (accumulated r (text ++ bytes) (length (text ++ bytes) / 16) * r ^ n) refl (
          sym (mul-mod_first ((before + whole) * r) (r ^ n) prime)
          ∙ ap (λ m. (((before + m) * r) % prime * r ^ n) % prime) is_block
          ∙ ap (λ a. (a * r ^ n) % prime) (sym (accumulated_whole r text bytes is.whole size)));
    }

-- block i of a group of so many, times its power of r
pub scaled_block : (r blocks i number power block next : ℕ) (text group : List ℕ) → blocks ≤ 64 → i < blocks → length group ≡ 16 * blocks
    → block + 2 ^ 128 ≡ block_number (take (16 * i + 16 - 16 * i) (drop (16 * i) group))
    → power % prime ≡ r ^ (64 - (64 - blocks + i)) % prime → next % prime ≡ (number + block * power) % prime
    → IsScaled r (blocks - i) number (text ++ take (16 * i) group)
    → IsScaled r (blocks - (i + 1)) next (text ++ take (16 * (i + 1)) group)
scaled_block r blocks i number power block next text group few within size is_block is_power is_next is =
    let n = blocks - (i + 1) in
    let before : blocks - i ≡ suc n = omega arith in
    let place : 64 - (64 - blocks + i) ≡ suc n = omega arith in
    let count : 16 * i + 16 - 16 * i ≡ 16 = omega arith in
    let done = text ++ take (16 * i) group in
    let bytes = take (16 * i + 16 - 16 * i) (drop (16 * i) group) in
    let long : length bytes ≡ 16 = length-take-le (16 * i + 16 - 16 * i) (drop (16 * i) group) (omega (arith, length-drop (16 * i) group)) ∙ count in
    let joined : done ++ bytes ≡ text ++ take (16 * (i + 1)) group =
    append_assoc text (take (16 * i) group) bytes
    ∙ ap (λ l. text ++ l) (take_part group (16 * i) (16 * i + 16 - 16 * i) (16 * (i + 1)) (omega arith)) in
    let step = scaled_more r n number power block next done bytes long is_block (is_power ∙ ap (λ k. r ^ k % prime) place) is_next
    (subst (λ (k : ℕ). IsScaled r k number (text ++ take (16 * i) group)) before is) in
    subst (λ (l : List ℕ). IsScaled r n next l) joined step

-- the same place of a group, in other words
pub scaled_at : (r blocks number i j : ℕ) (text group : List ℕ) → i ≡ j
    → IsScaled r (blocks - i) number (text ++ take (16 * i) group) → IsScaled r (blocks - j) number (text ++ take (16 * j) group)
scaled_at r blocks number i j text group same is = subst (λ (k : ℕ). IsScaled r (blocks - k) number (text ++ take (16 * k) group)) same is

nothing_beyond : (r n : ℕ) → bits_beyond r 0 + n ≡ n
unfolding bits_beyond
nothing_beyond r n = zero-add n

bit_more : (r n number : ℕ) → number + 2 ^ 128 * r ^ suc n + bits_beyond r n ≡ number + bits_beyond r (suc n)
unfolding bits_beyond
bit_more r n number = add_assoc number (2 ^ 128 * r ^ suc n) (bits_beyond r n)

-- the bits beyond one block more
pub beyond_more : (r blocks i number power next : ℕ) → blocks ≤ 64 → i < blocks → power % prime ≡ r ^ (64 - (64 - blocks + i)) % prime
    → next % prime ≡ (number + 2 ^ 128 * power) % prime
    → (number + bits_beyond r (blocks - i)) % prime ≡ bits_beyond r blocks % prime
    → (next + bits_beyond r (blocks - (i + 1))) % prime ≡ bits_beyond r blocks % prime
beyond_more r blocks i number power next few within is_power is_next is =
    let n = blocks - (i + 1) in
    let before : blocks - i ≡ suc n = omega arith in
    let place : 64 - (64 - blocks + i) ≡ suc n = omega arith in
    let rest = bits_beyond r n in
    congruent_sum next rest (number + 2 ^ 128 * r ^ suc n) rest (is_next
    ∙ congruent_sum number (2 ^ 128 * power) number (2 ^ 128 * r ^ suc n) refl
    (congruent_product (2 ^ 128) power (r ^ suc n) (is_power ∙ ap (λ k. r ^ k % prime) place))) refl
    ∙ ap (λ k. k % prime) (bit_more r n number) ∙ ap (λ k. (number + bits_beyond r k) % prime) (sym before) ∙ is

pub beyond_all : (r blocks i number : ℕ) → i ≡ blocks → (number + bits_beyond r (blocks - i)) % prime ≡ bits_beyond r blocks % prime
    → number % prime ≡ bits_beyond r blocks % prime
unfolding bits_beyond
beyond_all r blocks i number all is =
    let none : blocks - i ≡ 0 = omega arith in
    ap (λ k. k % prime) (sym (add-zero number)) ∙ ap (λ k. (number + bits_beyond r k) % prime) (sym none) ∙ is

-- no power of r is left
pub scaled_last : (r n number result : ℕ) (text : List ℕ) → n ≡ 0 → result % prime ≡ number % prime
    → IsScaled r n number text → IsAccumulator r (result % prime) text
scaled_last r n number result text none is_result is =
    let last = subst (λ (k : ℕ). IsScaled r k number text) none is in
    let end = accumulated r text (length text / 16) in
    record {
      whole = last.whole;
      value = is_result ∙ last.value ∙ ap (λ k. k % prime) (nothing_beyond r (end * r ^ 0)) ∙ ap (λ k. (end * k) % prime) (pow-zero r)
          ∙ ap (λ k. k % prime) (mul-one end)
          ∙ accumulated-mod r text (length text / 16);
    }

-- a whole group is taken
pub scaled_all : (r blocks i number : ℕ) (text group : List ℕ) → i ≡ blocks → length group ≡ 16 * blocks
    → IsScaled r (blocks - i) number (text ++ take (16 * i) group) → IsScaled r 0 number (text ++ group)
scaled_all r blocks i number text group all size is =
    let none : blocks - i ≡ 0 = omega arith in
    let whole : take (16 * i) group ≡ group = take_all (16 * i) group (omega arith) in
    subst (λ (l : List ℕ). IsScaled r 0 number (text ++ l)) whole
    (subst (λ (k : ℕ). IsScaled r k number (text ++ take (16 * i) group)) none is)

-- the powers of r
pub first_power : (r number : ℕ) → number ≡ r → number % prime ≡ r ^ 1 % prime
first_power r number is = ap (λ n. n % prime) (is ∙ sym (pow-suc r 0 ∙ ap (λ k. k * r) (pow-zero r) ∙ one-mul r))

pub next_power : (r i number first next : ℕ) → first ≡ r → number % prime ≡ r ^ i % prime → next % prime ≡ (number * first) % prime
    → next % prime ≡ r ^ (i + 1) % prime
next_power r i number first next is_first is_number is_next =
    let same : suc i ≡ i + 1 = omega arith in
    is_next ∙ ap (λ k. (number * k) % prime) is_first ∙ sym (mul-mod_first number r prime) ∙ ap (λ k. (k * r) % prime) is_number
    ∙ mul-mod_first (r ^ i) r prime ∙ ap (λ k. k % prime) (sym (pow-suc r i) ∙ ap (λ k. r ^ k) same)

-- what is true of each item of a list from a place on, which is made from its end
module _ (P : ℕ → Multiplier → Type 0) (n : ℕ) where
  pub true_of_last : (last : Multiplier) → P n last
      → (k : ℕ) (x : Multiplier) → n < k + 1 → slice_get (replicate (suc n) last) k ≡ Some x → P k x
  true_of_last last here k x reached is =
      let within = slice_get_within (replicate (suc n) last) k x is in
      let same : n ≡ k = omega (arith, within, length-replicate (suc n) last) in
      let item = sym (get_or-replicate (suc n) k last x (omega arith)) ∙ get_or_from_slice_get (replicate (suc n) last) k x x is in
      subst (λ (y : Multiplier). P k y) item (subst (λ (j : ℕ). P j last) same here)

  pub true_of_next : (xs : List Multiplier) (i : ℕ) (next : Multiplier) → length xs ≡ suc n → i < suc n
      → ((k : ℕ) (x : Multiplier) → n < k + i → slice_get xs k ≡ Some x → P k x) → P (n - i) next
      → (k : ℕ) (x : Multiplier) → n < k + (i + 1) → slice_get (set xs (n - i) next) k ≡ Some x → P k x
  true_of_next xs i next size fits after here k x reached is =
      let read = get_or_from_slice_get (set xs (n - i) next) k x x is in
      let within = slice_get_within (set xs (n - i) next) k x is in
      let inside : k < length xs = omega (arith, within, length-set xs (n - i) next) in
      elim (cases_lt n (k + i)) [
        | inl above ↦
            let other : k ≢ n - i = omega arith in
            let old : get_or xs k x ≡ x = sym (get_or-set_other xs (n - i) k next x other) ∙ read in
            after k x above (slice_get-get_or xs k x inside ∙ ap (λ y. Some y) old)
        | inr last ↦
            let same : n - i ≡ k = omega arith in
            let item = sym (get_or-set_same xs (n - i) next x (omega arith)) ∙ ap (λ j. get_or (set xs (n - i) next) j x) same ∙ read in
            subst (λ (y : Multiplier). P k y) item (subst (λ (j : ℕ). P j next) same here)
      ]
