-- Texts of native keys: Bech32 (BIP 173) of 32 bytes, with the prefixes that age-encryption.org/v1 has in the section "The X25519
-- recipient type". A prefix is read in either case.
use Rattle.std.specs.Prelude.{List, codes, length, ℕ, ◌≡◌, ◌≢◌, ◌⊎◌}
use Rattle.age_error.specs.Bytes.{AreBytesOf}
use Rattle.age_bech32.specs.Bech32.{IsBech32, IsInCaseOf}
use Rattle.age_bech32.specs.Refusals.{IsNoBech32}
use Rattle.age_bech32.specs.Symbols.{has_upper, lowered}
use Rattle.age_bech32.specs.Written.{bech32_text}
use Rattle.age_v1.specs.X25519.{IsKeyText}

-- it is Bech32 of other bytes: the prefix is another, or they are more or fewer than 32
pub record IsOtherText (prefix size_message text message : List ℕ) : Type 0 where
  pub written : List ℕ
  pub bytes : List ℕ
  pub reads : IsBech32 text written bytes
  pub cause : ((lowered written ≢ lowered prefix) × (message ≡ codes "incorrect HRP"))
      ⊎ ((lowered written ≡ lowered prefix) × (length bytes ≢ 32) × (message ≡ size_message))

-- what a text is refused with that is none of a key with this prefix
abbrev pub IsRefusedAs : List ℕ → List ℕ → List ℕ → List ℕ → Type 0
IsRefusedAs prefix size_message text message =
    (IsNoBech32 text × (message ≡ codes "invalid Bech32 encoding")) ⊎ IsOtherText prefix size_message text message

-- the text that is written of a key is in the prefix's case, one of that key and of no other, the only one of it in that case, and none
-- that is refused
pub record IsReadBack (prefix key : List ℕ) : Type 0 where
  pub text : IsKeyText prefix (bech32_text prefix key) key
  pub in_case : IsInCaseOf prefix (bech32_text prefix key)
  pub alone : (other : List ℕ) → IsKeyText prefix (bech32_text prefix key) other → other ≡ key
  pub printed : (other : List ℕ) → IsKeyText prefix other key → has_upper other ≡ has_upper (bech32_text prefix key) → other ≡ bech32_text prefix key
  pub accepted : (size_message message : List ℕ) → IsRefusedAs prefix size_message (bech32_text prefix key) message → ⊥

-- so it is of each key of 32 bytes
abbrev pub KeyReadsBack : List ℕ → Type 0
KeyReadsBack prefix = (key : List ℕ) → AreBytesOf 32 key → IsReadBack prefix key
