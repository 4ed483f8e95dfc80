-- What a body of 32 bytes opens to has 16, and base64 is that of one size.
use Rattle.std.proofs.Common.{◌≡◌, ◌≢◌, ◌∙◌, sym, ℕ, ◌^◌, ◌<◌, List, length, ap, arith, refl, Option, Some}
use Rattle.std.proofs.lemmas.List.Elements.{All-replicate}
use Rattle.age_error.specs.Bytes.{AreBytes, AreBytesOf}
use Rattle.age_suite.specs.Suite.{IsCipher}
use Rattle.age_base64.specs.Base64.{columns}
use Rattle.age_base64.proofs.Columns.{columns_same}
use Rattle.age_v1.specs.RecipientType.{no_nonce}

pub no_nonce-bytes : AreBytesOf 12 no_nonce
no_nonce-bytes = record { len = refl; bytes = All-replicate (λ x. x < 2 ^ 8) 12 0 (omega arith) }

module _ (seal_of : List ℕ → List ℕ → List ℕ → List ℕ) (opened : List ℕ → List ℕ → List ℕ → Option (List ℕ)) (law : IsCipher seal_of opened) where
  pub sixteen : (key body plain : List ℕ) → AreBytesOf 32 key → AreBytes body → length body ≡ 32 → opened key no_nonce body ≡ Some plain
      → length plain ≡ 16
  sixteen key body plain k b long is =
      let (bytes, seal) = (law.opens_exactly key no_nonce body plain k no_nonce-bytes b).0 is in
      let size = (law.seal_is_longer key no_nonce plain k no_nonce-bytes bytes).len in
      omega (arith, long, ap length seal, size)

-- base64 of other than n bytes
pub other_length : (n : ℕ) (bytes other text : List ℕ) → AreBytes bytes → columns bytes ≡ text → length bytes ≢ n → AreBytesOf n other
    → columns other ≡ text → ⊥
other_length n bytes other text b is size h same = size (ap length (columns_same bytes other b h.bytes (is ∙ sym same)) ∙ h.len)
