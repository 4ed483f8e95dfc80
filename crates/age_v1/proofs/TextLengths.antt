-- What a text's length says, over plain variables: `omega` takes seconds each time that it meets a text cut at a large numeral.
use Rattle.std.proofs.Common.{◌≡◌, ℕ, ◌+◌, ◌-◌, ◌*◌, ◌/◌, ◌<◌, ◌≤◌, ◌^◌, List, length, take, drop, min, inl, inr, refl, arith, length-take, length-drop}
use Rattle.std.proofs.lemmas.Bool.{cases_lt}
use Rattle.age_v1.specs.DeliveredPayload.{IsLastChunk}

module _ (size front : ℕ) (xs : List ℕ) where
  -- so many bytes from this place on
  pub length-text : length (take size (drop front xs)) ≡ min size (length xs - front)
  length-text = rw (length-take, length-drop) refl

  -- a full text ends in the bytes
  pub full-within : 0 < size → length (take size (drop front xs)) ≡ size → front + size ≤ length xs
  full-within some full = omega (arith, length-text)

  -- a text with a byte begins in them
  pub some-within : 0 < length (take size (drop front xs)) → front < length xs
  some-within some = omega (arith, length-text)

  pub full-text : front + size ≤ length xs → length (take size (drop front xs)) ≡ size
  full-text within = omega (arith, length-text)

  -- an empty one, which may begin in them, begins at their end
  pub none-past : 0 < size → length (take size (drop front xs)) ≤ 0 → front ≤ length xs → length xs ≡ front
  none-past some none within = omega (arith, length-text)

pub not-short : (n : ℕ) → n ≡ 65552 → n < 65552 → ⊥
not-short n full less = absurd (omega (arith, full, less))

pub few-left : (n len front : ℕ) → n ≡ len - front → len ≤ front + 65552 → n ≤ 65552
few-left n len front is few = omega arith

pub few-final : (len : ℕ) → len ≤ 65552 * ((len - 1) / 65552) + 65552
few-final len = omega arith

pub some-final : (len number : ℕ) → 65552 * number + 16 ≤ len → 65552 * number < len
some-final len number enough = omega arith

pub is-none : (n : ℕ) → n ≤ 0 → n ≡ 0
is-none n none = omega arith

pub no-more : (n m : ℕ) → n - m ≡ 0 → n ≤ m
no-more n m none = omega arith

pub below-most : (i n m : ℕ) → i < n → n ≤ m → i < m
below-most i n m within most = omega arith

pub is-full : (n m : ℕ) → n ≡ m → m ≡ 65552 → 0 < n
is-full n m is full = omega arith

pub is-sealed : (n m size plain : ℕ) → n ≡ m → m ≡ size → size ≡ plain + 16 → 0 < n
is-sealed n m size plain is same longer = omega arith

-- the text of a chunk, and what it opened to, which is 16 bytes shorter
module _ (number text plain len : ℕ) (longer : plain + 16 ≡ text) where
  pub plain-most : text ≡ min 65552 (len - 65552 * number) → plain ≤ 65536
  plain-most long = omega arith

  pub plain-full : text ≡ 65552 → plain ≡ 65536
  plain-full full = omega arith

  -- the chunk is the last
  pub plain-whole : text ≡ min 65552 (len - 65552 * number) → len ≤ 65552 * number + 65552 → 65552 * number < len → plain + 16 + 65552 * number ≡ len
  plain-whole long few some = omega arith

  -- a place in the plaintext is in the payload
  pub plain-inside : text ≡ min 65552 (len - 65552 * number) → 65552 * number < len → (at : ℕ) → at ≤ plain → 65552 * number + at + 16 ≤ len
  plain-inside long some at within = omega arith

-- the last chunk, by its length
module _ (number plain len : ℕ) (whole : plain + 16 + 65552 * number ≡ len) where
  pub last-by_length : len ≤ 65552 * number + 65552 → (0 < number → 0 < plain) → IsLastChunk len number
  last-by_length few some = record { fits = few; enough = omega arith; more = λ later. let byte = some later in omega arith }

  pub last-place : len - 16 * (number + 1) ≡ 65536 * number + plain
  last-place = omega arith

  -- a payload that ends well has no more plaintext than may be
  pub last-limit : (out : ℕ) → out + 16 * (number + 1) ≡ len → plain ≤ 65536 → (plain ≡ 0 → number ≡ 0) → (0 < plain → number < 2 ^ 44) → out ≤ 2 ^ 60
  last-limit out less most first limit = elim (cases_lt 0 plain) [
    | inl some ↦ let under : number < 2 ^ 44 = limit some in omega arith
    | inr none ↦ let zero : number ≡ 0 = first (is-none plain none) in omega arith
  ]
