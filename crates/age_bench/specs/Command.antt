-- What the words of a command line ask for. A word is a list of bytes.
use Rattle.std.specs.Prelude.{◌≡◌, ◌≢◌, ℕ, ◌+◌, ◌-◌, ◌*◌, Bool, true, false, ◌&&◌, List, [], ◌∷◌, ◌++◌, length, nat_eq, nat_le, bytes_eq, codes, if◌then◌else◌, Option, Some, None, option_map}
use Rattle.std.specs.Option.{option_and_then}
use Rattle.age.specs.Types.{Format}
use Rattle.age.specs.FormatVariants.{Binary, AsciiArmor}
use Rattle.age.specs.X25519.{recipient_prefix, identity_prefix, IsKeyText}
use Rattle.age_bench.specs.declared.names.To.{To}
use Rattle.age_bench.specs.declared.names.To.TheVariants as to
use Rattle.age_bench.specs.declared.names.With.{With}
use Rattle.age_bench.specs.declared.names.With.TheVariants as with_
use Rattle.age_bench.specs.Decimal.{number_of}
use Rattle.age_bench.specs.declared.command.Command.{Command}
use Rattle.age_bench.specs.declared.command.Command.TheVariants as command

-- what a command asks for, apart from where its bytes lie in memory
pub data CommandValue : Type 0 where
  Seal : List ℕ → CommandValue
  Open : List ℕ → CommandValue
  Encrypt : To → List ℕ → Format → CommandValue
  Decrypt : With → CommandValue
  At : With → ℕ → ℕ → CommandValue
  Keygen : List ℕ → CommandValue

abbrev pub command_value : Command → CommandValue
command_value (command.Seal key) = Seal key
command_value (command.Open key) = Open key
command_value (command.Encrypt to draw format) = Encrypt to draw.items format
command_value (command.Decrypt with_) = Decrypt with_
command_value (command.At with_ place count) = At with_ place count
command_value (command.Keygen draw) = Keygen draw.items

-- the value of a hexadecimal digit: '0' to '9', 'a' to 'f' or 'A' to 'F'
abbrev pub digit_of : ℕ → Option ℕ
digit_of c =
    if nat_le 48 c && nat_le c 57 then Some (c - 48)
    else if nat_le 97 c && nat_le c 102 then Some (c - 97 + 10)
    else if nat_le 65 c && nat_le c 70 then Some (c - 65 + 10)
    else None

-- the byte that two hexadecimal digits write, the high one first
abbrev pub byte_of : ℕ → ℕ → Option ℕ
byte_of high low = option_and_then (λ h. option_map (λ l. 16 * h + l) (digit_of low)) (digit_of high)

-- the bytes that a text of hexadecimal digits writes, two digits a byte
abbrev pub hex_bytes : List ℕ → Option (List ℕ)
hex_bytes [] = Some []
hex_bytes (_ ∷ []) = None
hex_bytes (high ∷ low ∷ text) = option_and_then (λ byte. option_map (λ bytes. byte ∷ bytes) (hex_bytes text)) (byte_of high low)

-- a key is written by 64 digits
abbrev pub key_word : List ℕ → Option (List ℕ)
key_word text = if nat_eq (length text) 64 then hex_bytes text else None

-- the word that names a passphrase: what follows `pass=`, byte by byte, which may be nothing
abbrev pub passphrase_word : List ℕ → List ℕ
passphrase_word passphrase = codes "pass=" ++ passphrase

-- What a word names as TO: the recipient of the bench suite, an X25519 recipient by its text, or all who know a passphrase, with the work
-- factor 10; else nothing.
abbrev pub NamesTo : List ℕ → Option To → Type 0
NamesTo word (Some to.Bench) = word ≡ codes "bench"
NamesTo word (Some (to.Key key)) = IsKeyText recipient_prefix word key
NamesTo word (Some (to.Passphrase recipient)) = (word ≡ passphrase_word recipient.passphrase) × (recipient.factor ≡ 10)
NamesTo word None =
    (word ≢ codes "bench") × ((passphrase : List ℕ) → word ≢ passphrase_word passphrase) × ((key : List ℕ) → IsKeyText recipient_prefix word key → ⊥)

-- And as WITH: the identity of the bench suite, an X25519 identity by its text, or one who knows a passphrase, with the target 18, so that
-- work factors up to 22 are taken; else nothing.
abbrev pub NamesWith : List ℕ → Option With → Type 0
NamesWith word (Some with_.Bench) = word ≡ codes "bench"
NamesWith word (Some (with_.Key secret)) = IsKeyText identity_prefix word secret
NamesWith word (Some (with_.Passphrase identity)) = (word ≡ passphrase_word identity.passphrase) × (identity.target ≡ 18) × (identity.most ≡ 22)
NamesWith word None =
    (word ≢ codes "bench") × ((passphrase : List ℕ) → word ≢ passphrase_word passphrase)
    × ((secret : List ℕ) → IsKeyText identity_prefix word secret → ⊥)

-- one or the other, by a test
abbrev pub When : Bool → Type 0 → Type 0 → Type 0
When true this other = this
When false this other = other

-- `encrypt`, where TO and DRAW are such words
abbrev pub encryption : Option To → Option (List ℕ) → Format → Option CommandValue
encryption to draw format = option_and_then (λ t. option_map (λ bytes. Encrypt t bytes format) draw) to

-- so it is asked for in this form
abbrev pub AsksToEncrypt : List ℕ → List ℕ → Format → Option CommandValue → Type 0
AsksToEncrypt word draw format asked = (to : Option To) × NamesTo word to × (asked ≡ encryption to (hex_bytes draw) format)

-- in the form that more words ask for, if they ask for one
abbrev pub InFormat : List ℕ → List ℕ → Option Format → Option CommandValue → Type 0
InFormat word draw None asked = asked ≡ None
InFormat word draw (Some format) asked = AsksToEncrypt word draw format asked

-- `at`, where WITH, PLACE and COUNT are such words
abbrev pub part : Option With → Option ℕ → Option ℕ → Option CommandValue
part with_ place count = option_and_then (λ w. option_and_then (λ p. option_map (λ c. At w p c) count) place) with_

-- The command lines, by how many words they have: `seal KEY`, `open KEY`, `decrypt WITH`, `keygen DRAW`, `encrypt TO DRAW`,
-- `encrypt TO DRAW armor` and `at WITH PLACE COUNT`. All else asks for nothing.
abbrev pub AsksFor : List (List ℕ) → Option CommandValue → Type 0
AsksFor (name ∷ word ∷ []) asked =
    When (bytes_eq name (codes "decrypt")) ((with_ : Option With) × NamesWith word with_ × (asked ≡ option_map Decrypt with_))
    (asked ≡ (if bytes_eq name (codes "keygen") then option_map Keygen (hex_bytes word)
    else if bytes_eq name (codes "seal") then option_map Seal (key_word word)
    else if bytes_eq name (codes "open") then option_map Open (key_word word)
    else None))
AsksFor (name ∷ second ∷ third ∷ []) asked = When (bytes_eq name (codes "encrypt")) (AsksToEncrypt second third Binary asked) (asked ≡ None)
AsksFor (name ∷ second ∷ third ∷ fourth ∷ []) asked =
    When (bytes_eq name (codes "encrypt") && bytes_eq fourth (codes "armor")) (AsksToEncrypt second third AsciiArmor asked)
    (When (bytes_eq name (codes "at"))
    ((with_ : Option With) × NamesWith second with_ × (asked ≡ part with_ (number_of third) (number_of fourth))) (asked ≡ None))
AsksFor words asked = asked ≡ None
