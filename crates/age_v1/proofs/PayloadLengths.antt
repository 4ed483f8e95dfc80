-- What the length of a payload says of its last chunk.
use Rattle.std.specs.Prelude.{◌≡◌, ℕ, ◌+◌, ◌-◌, ◌*◌, ◌/◌, ◌<◌, ◌&&◌, ◌||◌, nat_le, nat_lt, nat_eq, if◌then◌else◌, Option, Some, None, Bool, true, false}
use Rattle.std.proofs.Common.{refl, sym, ap, inl, inr, arith}
use Rattle.std.proofs.lemmas.Bool.{cases_lt, le-leb, lt-ltb, eq-eqb, leb-true, ltb-true, eqb-true}
use Rattle.std.proofs.Math.Bool.{or-true}
use Rattle.age_v1.specs.Payload.{final_chunk, plain_len}
use Rattle.age_v1.specs.DeliveredPayload.{IsLastChunk}

only-or : (j : ℕ) (b : Bool) → j ≡ 0 → (nat_eq j 0 || b) ≡ true
only-or j b is = rw (eq-eqb j 0 is) refl

-- a payload whose last chunk is good by its length
pub plain_len-last : (size number : ℕ) → IsLastChunk size number → (final_chunk size ≡ number) × (plain_len size ≡ Some (size - 16 * (number + 1)))
unfolding plain_len
plain_len-last size number last =
    let same : (size - 1) / 65552 ≡ number = omega (arith, last.fits, last.enough) in
    let rest = size - 65552 * number in
    let enough : nat_le 16 rest ≡ true = le-leb 16 rest (omega (arith, last.enough)) in
    let one : (nat_eq number 0 || nat_lt 16 rest) ≡ true = elim (cases_lt 0 number) [
      | inl some ↦ let longer : 16 < rest = omega (arith, last.more some) in rw (lt-ltb 16 rest longer, or-true) refl
      | inr none ↦ only-or number (nat_lt 16 rest) (omega (arith, none))
    ] in
    (same, rw (same, enough, one) refl)

-- ---- the other way

abbrev number_of : Option ℕ → ℕ
number_of None = 0
number_of (Some n) = n

if-some : (b : Bool) (n len : ℕ) → ◌≡◌ {A = Option ℕ} (if b then Some n else None) (Some len) → (b ≡ true) × (len ≡ n)
if-some true n len is = (refl, sym (ap number_of is))
if-some false n len is = cc

and-by : (a b : Bool) → (a && b) ≡ true → (a ≡ true) × (b ≡ true)
and-by true b is = (refl, is)
and-by false b is = cc

more-by : (b : Bool) (number rest : ℕ) → nat_eq number 0 ≡ b → (b || nat_lt 16 rest) ≡ true → 0 < number → 16 < rest
more-by true number rest none is some = absurd (omega (arith, eqb-true number 0 none, some))
more-by false number rest apart is some = ltb-true 16 rest is

-- a plaintext of this length has payloads of that one
pub record HasPlain (size len : ℕ) : Type 0 where
  pub last : IsLastChunk size (final_chunk size)
  pub whole : len + 16 * (final_chunk size + 1) ≡ size

pub plain_len_says : (size len : ℕ) → plain_len size ≡ Some len → HasPlain size len
unfolding plain_len
plain_len_says size len is =
    let number = (size - 1) / 65552 in
    let rest = size - 65552 * number in
    let found = if-some _ _ len is in
    let both = and-by (nat_le 16 rest) (nat_eq number 0 || nat_lt 16 rest) found.0 in
    let enough = leb-true 16 rest both.0 in
    record {
      last = record {
        fits = omega arith;
        enough = omega (arith, enough);
        more = λ some. omega (arith, more-by (nat_eq number 0) number rest refl both.1 some);
      };
      whole = omega (arith, found.1, enough);
    }
