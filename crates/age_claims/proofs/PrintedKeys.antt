-- What the laws of texts say of one key, and of two.
use Rattle.std.specs.Prelude.{◌≡◌, ℕ, false, List, refl}
use Rattle.std.proofs.Common.{◌∙◌, ap, subst}
use Rattle.age.specs.Bytes.{AreBytesOf}
use Rattle.age.specs.Bech32Symbols.{has_lower, has_upper}
use Rattle.age.specs.Bech32Written.{bech32_text}
use Rattle.age.specs.KeyTexts.{KeyReadsBack}
use Rattle.age.specs.X25519.{IsKeyText, identity_prefix, recipient_prefix}

pub one_key : (one other : List ℕ) → KeyReadsBack recipient_prefix → AreBytesOf 32 one → AreBytesOf 32 other
    → bech32_text recipient_prefix one ≡ bech32_text recipient_prefix other → one ≡ other
one_key one other reads bytes more same =
    (reads other more).alone one (subst (λ text. IsKeyText recipient_prefix text one) same (reads one bytes).text)

pub in_lower_case : (key text : List ℕ) → KeyReadsBack recipient_prefix → AreBytesOf 32 key → text ≡ bech32_text recipient_prefix key
    → has_upper text ≡ false
in_lower_case key text reads bytes is = ap has_upper is ∙ (reads key bytes).in_case.lower refl

pub in_upper_case : (key text : List ℕ) → KeyReadsBack identity_prefix → AreBytesOf 32 key → text ≡ bech32_text identity_prefix key
    → has_lower text ≡ false
in_upper_case key text reads bytes is = ap has_lower is ∙ (reads key bytes).in_case.upper refl
