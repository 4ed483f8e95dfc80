-- What a lawful cipher says of a text that opened.
use Rattle.std.proofs.Common.{◌≡◌, ◌∙◌, sym, ap, ℕ, zero, suc, ◌+◌, ◌<◌, ◌^◌, Option, Some, Bool, true, false, List, [], ◌∷◌, if◌then◌else◌, lit<, length, arith, refl}
use Rattle.std.proofs.lemmas.List.Elements.{All-append, All-nil, All-cons}
use Rattle.std.specs.Int.{byte_at, bytes_high_first}
use Rattle.age_error.specs.Bytes.{AreBytes, AreBytesOf}
use Rattle.age_suite.specs.Suite.{IsCipher}
use Rattle.age_v1.specs.Payload.{Seal, chunk_nonce}

high_first-bytes : (k n : ℕ) → AreBytes (bytes_high_first k n)
high_first-bytes zero n = All-nil (λ x. x < 2 ^ 8)
high_first-bytes (suc k) n = All-cons (λ x. x < 2 ^ 8) (byte_at k n) (bytes_high_first k n) (below k n) (high_first-bytes k n)
  where
    below : (k n : ℕ) → byte_at k n < 2 ^ 8
    below zero n = omega arith
    below (suc k) n = omega arith

pub nonce-bytes : (i : ℕ) (is_last : Bool) → AreBytesOf 12 (chunk_nonce i is_last)
unfolding chunk_nonce
nonce-bytes i is_last = record {
  len = refl;
  bytes = All-append (λ x. x < 2 ^ 8) (bytes_high_first 11 i) ((if is_last then 1 else 0) ∷ []) (high_first-bytes 11 i) (flag is_last);
}
  where
    flag : (b : Bool) → AreBytes ((if b then 1 else 0) ∷ [])
    flag true = All-cons (λ x. x < 2 ^ 8) 1 [] (lit< tt) (All-nil (λ x. x < 2 ^ 8))
    flag false = All-cons (λ x. x < 2 ^ 8) 0 [] (lit< tt) (All-nil (λ x. x < 2 ^ 8))

-- what opens is 16 bytes shorter than its text
abbrev pub Shorter : (List ℕ → List ℕ → List ℕ → Option (List ℕ)) → List ℕ → Type 0
Shorter opened key = (number : ℕ) (last : Bool) (text plain : List ℕ) → AreBytes text
    → opened key (chunk_nonce number last) text ≡ Some plain → length plain + 16 ≡ length text

module _ (seal_of : Seal) (opened : List ℕ → List ℕ → List ℕ → Option (List ℕ)) (law : IsCipher seal_of opened) (key : List ℕ)
    (k : AreBytesOf 32 key) where
  pub shorter : Shorter opened key
  shorter number last text plain bytes is =
      let both = (law.opens_exactly key (chunk_nonce number last) text plain k (nonce-bytes number last) bytes).0 is in
      sym (ap length both.1 ∙ (law.seal_is_longer key (chunk_nonce number last) plain k (nonce-bytes number last) both.0).len)

-- what opens is bytes
abbrev pub OpensBytes : (List ℕ → List ℕ → List ℕ → Option (List ℕ)) → List ℕ → Type 0
OpensBytes opened key = (number : ℕ) (last : Bool) (text plain : List ℕ) → AreBytes text
    → opened key (chunk_nonce number last) text ≡ Some plain → AreBytes plain

module _ (seal_of : Seal) (opened : List ℕ → List ℕ → List ℕ → Option (List ℕ)) (law : IsCipher seal_of opened) (key : List ℕ)
    (k : AreBytesOf 32 key) where
  pub opens_bytes : OpensBytes opened key
  opens_bytes number last text plain bytes is =
      ((law.opens_exactly key (chunk_nonce number last) text plain k (nonce-bytes number last) bytes).0 is).0
