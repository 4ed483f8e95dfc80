-- Files of recipients: each line is the text of one, or is passed over, or bad.
use Rattle.std.specs.Prelude.{◌≡◌, ◌⊎◌, ℕ, ◌+◌, List, [], ◌∷◌, ◌++◌, length, codes}
use Rattle.std.specs.Str.{IsUtf8}
use Rattle.std.specs.Str.Lines.{lines}
use Rattle.age.specs.KeyTexts.{IsRefusedAs}
use Rattle.age.specs.X25519.{recipient_prefix, IsKeyText}
use Rattle.sazh_core.specs.declared.error.RecipientsError.{RecipientsError}
use Rattle.sazh_core.specs.declared.error.RecipientsError.TheVariants.{NotText, NotRecipient, NoRecipient, OutOfMemory}

-- a line that is passed over: it is empty, or begins with `#`
abbrev pub IsEmptyOrComment : List ℕ → Type 0
IsEmptyOrComment line = (line ≡ []) ⊎ ((rest : List ℕ) × (line ≡ 35 ∷ rest))

-- a line that is the text of the recipient of a public value
abbrev pub IsRecipient : List ℕ → List ℕ → Type 0
IsRecipient line public = IsKeyText recipient_prefix line public

-- any other line: it is no Bech32, or that of another prefix or of other than 32 bytes
abbrev pub IsBadRecipientLine : List ℕ → Type 0
IsBadRecipientLine line = (IsEmptyOrComment line → ⊥) × (message : List ℕ) × IsRefusedAs recipient_prefix (codes "incorrect pubkey length") line message

-- the recipients of lines of which none is bad, in their order
abbrev pub AreRecipients : List (List ℕ) → List (List ℕ) → Type 0
AreRecipients [] recipients = recipients ≡ []
AreRecipients (line ∷ more) recipients = (IsEmptyOrComment line × AreRecipients more recipients)
    ⊎ ((first : List ℕ) × (others : List (List ℕ)) × (recipients ≡ first ∷ others) × IsRecipient line first × AreRecipients more others)

-- Of these lines the one of this number, counted from 1, is the first that is bad.
pub record IsFirstBadRecipient (number : ℕ) (all : List (List ℕ)) : Type 0 where
  pub before : List (List ℕ)
  pub line : List ℕ
  pub after : List (List ℕ)
  pub parts : all ≡ before ++ line ∷ after
  pub counted : number ≡ length before + 1
  pub bad : IsBadRecipientLine line
  pub recipients : List (List ℕ)
  pub good : AreRecipients before recipients

-- why lines aren't those of recipients, or can't be told to be
abbrev pub RefusesLines : RecipientsError → List (List ℕ) → Type 0
RefusesLines e all = (e ≡ OutOfMemory) ⊎ ((number : ℕ) × (e ≡ NotRecipient number) × IsFirstBadRecipient number all)

-- why a text names no recipients, or can't be told to
abbrev pub RefusesRecipientText : RecipientsError → List ℕ → Type 0
RefusesRecipientText e text = RefusesLines e (lines text) ⊎ ((e ≡ NoRecipient) × AreRecipients (lines text) [])

-- the same of bytes, which may be no text
abbrev pub RefusesRecipientBytes : RecipientsError → List ℕ → Type 0
RefusesRecipientBytes e bytes = ((e ≡ NotText) × (IsUtf8 bytes → ⊥)) ⊎ (IsUtf8 bytes × RefusesRecipientText e bytes)
