-- Files of a passphrase.
use Rattle.std.specs.Prelude.{◌≡◌, ◌⊎◌, ℕ, ◌==◌, List, []}
use Rattle.std.specs.List.{before_first}
use Rattle.std.specs.Str.{IsUtf8}
use Rattle.std.specs.Str.Lines.{strip_carriage_return}
use Rattle.sazh_core.specs.declared.error.PassphraseError.{PassphraseError}
use Rattle.sazh_core.specs.declared.error.PassphraseError.TheVariants.{NotText, Empty, OutOfMemory}

-- the first line, without the LF or CRLF at its end, and without a carriage return there where no LF follows
abbrev pub first_line : List ℕ → List ℕ
first_line text = strip_carriage_return (before_first (λ byte. byte == 10) text)

-- why a text gives no passphrase
abbrev pub RefusesPassphrase : PassphraseError → List ℕ → Type 0
RefusesPassphrase e text = ((e ≡ Empty) × (first_line text ≡ [])) ⊎ ((e ≡ NotText) × (IsUtf8 (first_line text) → ⊥)) ⊎ (e ≡ OutOfMemory)
