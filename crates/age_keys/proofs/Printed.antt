-- The text of a recipient: its size, and that it is ASCII.
use Rattle.std.proofs.Common.{◌≡◌, ℕ, ◌+◌, ◌^◌, ◌<◌, ◌≤◌, ◌∙◌, inl, false, List, [], ◌∷◌, length, map, ap, refl, arith, All}
use Rattle.std.proofs.lemmas.List.Elements.{All-append, All-cons, All-nil, All-map, All-weaker}
use Rattle.age_bech32.specs.Symbols.{symbol_in}
use Rattle.age_bech32.specs.Refusals.{MayBeWritten}
use Rattle.age_bech32.specs.Groups.{group_count}
use Rattle.age_bech32.specs.Written.{bech32_text, values_of_bytes}
use Rattle.age_bech32.proofs.Spelling.{symbol-is}
use Rattle.age_bech32.proofs.Written.{length_text, values-fit}
use Rattle.age_v1.specs.X25519.{recipient_prefix}

prefix-low : All (λ b. 33 ≤ b) recipient_prefix
prefix-low =
    let P : ℕ → Type 0 = λ b. 33 ≤ b in
    All-cons P 97 (103 ∷ 101 ∷ []) (omega arith) (All-cons P 103 (101 ∷ []) (omega arith) (All-cons P 101 [] (omega arith) (All-nil P)))

prefix-high : All (λ b. b ≤ 126) recipient_prefix
prefix-high =
    let P : ℕ → Type 0 = λ b. b ≤ 126 in
    All-cons P 97 (103 ∷ 101 ∷ []) (omega arith) (All-cons P 103 (101 ∷ []) (omega arith) (All-cons P 101 [] (omega arith) (All-nil P)))

pub may_be_written : MayBeWritten recipient_prefix
may_be_written = (record { some = omega arith; few = omega arith; low = prefix-low; high = prefix-high }, inl refl)

counted : group_count 32 ≡ 52
counted = refl

pub recipient-size : (key : List ℕ) → length key ≡ 32 → length (bech32_text recipient_prefix key) ≡ 62
recipient-size key is = length_text recipient_prefix key ∙ ap (λ n. 3 + 1 + (group_count n + 6)) is

prefix-ascii : All (λ b. b < 128) recipient_prefix
prefix-ascii =
    let P : ℕ → Type 0 = λ b. b < 128 in
    All-cons P 97 (103 ∷ 101 ∷ []) (omega arith) (All-cons P 103 (101 ∷ []) (omega arith) (All-cons P 101 [] (omega arith) (All-nil P)))

pub recipient-ascii : (key : List ℕ) → All (λ b. b < 128) (bech32_text recipient_prefix key)
unfolding bech32_text
recipient-ascii key =
    let P : ℕ → Type 0 = λ b. b < 128 in
    let values = values_of_bytes recipient_prefix key in
    let symbols : All P (map (symbol_in false) values) =
    All-map P (symbol_in false) values (All-weaker (λ v. v < 2 ^ 5) (λ v. symbol_in false v < 128) (λ v h. (symbol-is v h).lower_ascii) values
    (values-fit recipient_prefix key)) in
    All-append P recipient_prefix (49 ∷ map (symbol_in false) values) prefix-ascii
    (All-cons P 49 (map (symbol_in false) values) (omega arith) symbols)
