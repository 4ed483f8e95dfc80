-- The base64 of the format.
use Rattle.std.proofs.Common.{◌≡◌, ◌≢◌, ℕ, zero, suc, ◌+◌, ◌*◌, ◌/◌, ◌%◌, ◌^◌, ◌<◌, ◌≤◌, Bool, true, false, List, [], ◌∷◌, ◌++◌, length, refl, ap, sym, arith, ◌∙◌}
use Rattle.std.proofs.lemmas.List.{append-nil}
use Rattle.std.proofs.lemmas.List.Elements.{All-head, All-tail, All-from_get_or}
use Rattle.std.specs.Prelude.{slice_index, nat_le, not, ◌&&◌, ◌==◌, Result, Ok}
use Rattle.std.specs.List.{AllByRecursion}
use Rattle.base64.specs.Rfc4648.{encode_symbols}
use Rattle.base64.specs.Tables.{all_below}
use Rattle.base64.specs.GeneralPurpose.{decode_of, encode_of, IsBytes}
use Rattle.base64.specs.Engines.{standard_no_pad}
use Rattle.base64.specs.declared.decode.DecodeError.{DecodeError}
use Rattle.base64.proofs.EngineFacts.{encode-append, decode_of-encode_of}
use Rattle.base64.proofs.RoundTrip.{length-encode_symbols}
use Rattle.base64.proofs.Tables.{all_below_at}
use Rattle.std.proofs.lemmas.Bool.{and_parts, leb-true, eqb-false, not-true}
use Rattle.age_error.specs.Bytes.{AreBytes}
use Rattle.age_base64.specs.Lines.{Lacks}
use Rattle.age_base64.specs.Base64.{symbols, columns}

pub columns-append : (a b : List ℕ) → length a % 3 ≡ 0 → columns (a ++ b) ≡ columns a ++ columns b
unfolding columns
columns-append a b whole = encode-append symbols 61 false a b whole

pub length-columns : (a : List ℕ) → length (columns a) ≡ (4 * length a + 2) / 3
unfolding columns
length-columns a = rw append-nil (length-encode_symbols symbols a)

-- bytes, by index and by the format's own word
pub bytes-by_index : (xs : List ℕ) → AreBytes xs → IsBytes xs
bytes-by_index [] h i = omega arith
bytes-by_index (x ∷ xs) h zero = let fits : x < 2 ^ 8 = All-head (λ b. b < 2 ^ 8) x xs h in omega (arith, fits)
bytes-by_index (x ∷ xs) h (suc i) = bytes-by_index xs (All-tail (λ b. b < 2 ^ 8) x xs h) i

pub bytes-from_index : (xs : List ℕ) → IsBytes xs → AreBytes xs
bytes-from_index xs h = All-from_get_or (λ b. b < 2 ^ 8) xs 0 (λ i l. let fits = h i in omega (arith, fits))

-- the engine whose table shows that no two lists have one base64; any engine over the alphabet would do
columns_are : (a : List ℕ) → columns a ≡ encode_of standard_no_pad a
unfolding columns
columns_are a = refl

-- two lists of bytes with one base64 are one
pub columns_same : (a b : List ℕ) → AreBytes a → AreBytes b → columns a ≡ columns b → a ≡ b
columns_same a b ha hb e =
    let da = decode_of-encode_of standard_no_pad a refl (bytes-by_index a ha) in
    let db = decode_of-encode_of standard_no_pad b refl (bytes-by_index b hb) in
    let both : encode_of standard_no_pad a ≡ encode_of standard_no_pad b = sym (columns_are a) ∙ e ∙ columns_are b in
    let ok : Path (Result (List ℕ) DecodeError) (Ok a) (Ok b) = sym da ∙ ap (decode_of standard_no_pad) both ∙ db in
    cc

-- a symbol of base64: no line feed, no hyphen, and no padding
abbrev pub IsSymbol : ℕ → Type 0
IsSymbol c = (43 ≤ c) × (c ≤ 122) × (c ≢ 45) × (c ≢ 61)

symbol_passes : ℕ → Bool
symbol_passes i = nat_le 43 (slice_index symbols i) && nat_le (slice_index symbols i) 122 && not (slice_index symbols i == 45)
    && not (slice_index symbols i == 61)

all_pass : all_below symbol_passes 64 ≡ true
unfolding symbol_passes
all_pass = refl

passed : (c : ℕ) → (nat_le 43 c && nat_le c 122 && not (c == 45) && not (c == 61)) ≡ true → IsSymbol c
passed c h =
    let no_equals = and_parts (nat_le 43 c && nat_le c 122 && not (c == 45)) (not (c == 61)) h in
    let no_hyphen = and_parts (nat_le 43 c && nat_le c 122) (not (c == 45)) no_equals.0 in
    let range = and_parts (nat_le 43 c) (nat_le c 122) no_hyphen.0 in
    (leb-true 43 c range.0, leb-true c 122 range.1, eqb-false c 45 (not-true (c == 45) no_hyphen.1), eqb-false c 61 (not-true (c == 61) no_equals.1))

IsSymbol_at : (i : ℕ) → i < 64 → IsSymbol (slice_index symbols i)
unfolding symbol_passes
IsSymbol_at i lt = passed (slice_index symbols i) (all_below_at symbol_passes 64 i all_pass lt)

pub are_symbols : (m : List ℕ) → IsBytes m → AllByRecursion IsSymbol (encode_symbols symbols m)
unfolding encode_symbols
are_symbols [] h = tt
are_symbols (a ∷ []) h = let ha : a < 256 = h 0 in (IsSymbol_at (a / 4) (omega arith), (IsSymbol_at (a % 4 * 16) (omega arith), tt))
are_symbols (a ∷ b ∷ []) h =
    let ha : a < 256 = h 0 in
    let hb : b < 256 = h 1 in
    (IsSymbol_at (a / 4) (omega arith), (IsSymbol_at (a % 4 * 16 + b / 16) (omega arith), (IsSymbol_at (b % 16 * 4) (omega arith), tt)))
are_symbols (a ∷ b ∷ c ∷ m) h =
    let ha : a < 256 = h 0 in
    let hb : b < 256 = h 1 in
    let hc : c < 256 = h 2 in (
      IsSymbol_at (a / 4) (omega arith),
      (
        IsSymbol_at (a % 4 * 16 + b / 16)
            (omega arith),
        (
          IsSymbol_at (b % 16 * 4 + c / 64)
              (omega arith),
          (IsSymbol_at (c % 64) (omega arith), are_symbols m (λ i. h (suc (suc (suc i))))),
        ),
      ),
    )

pub columns_symbols : (m : List ℕ) → AreBytes m → AllByRecursion IsSymbol (columns m)
unfolding columns
columns_symbols m h = rw append-nil (are_symbols m (bytes-by_index m h))

pub Lacks_columns : (c : ℕ) → c < 43 → (m : List ℕ) → AllByRecursion IsSymbol m → Lacks c m
Lacks_columns c low [] h = tt
Lacks_columns c low (d ∷ m) h = (λ e. omega arith, Lacks_columns c low m h.1)
