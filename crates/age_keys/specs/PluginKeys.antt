-- Texts of the keys of plugins: Bech32 (BIP 173) of any bytes, whose prefix names the plugin (age's plugin specification, on names and
-- keys).
use Rattle.std.specs.Prelude.{◌≡◌, ◌≢◌, ◌⊎◌, ℕ, ◌<◌, ◌≤◌, Bool, true, false, ◌||◌, ◌&&◌, ◌==◌, List, [], ◌∷◌, ◌++◌, length, map, replicate, codes, nat_lt}
use Rattle.std.specs.List.{list_all}
use Rattle.std.specs.Char.{is_ascii_alphanumeric, to_ascii_uppercase}
use Rattle.age_bech32.specs.Bech32.{IsBech32}
use Rattle.age_bech32.specs.Refusals.{IsNoBech32}
use Rattle.age_bech32.specs.Symbols.{lowered}
use Rattle.age_bech32.specs.Written.{bech32_text}
use Rattle.age_error.specs.ResolveErrors.{ResolveRefusal, InvalidPluginName, OutOfMemory}

-- an ASCII letter or digit, or one of + - . _
abbrev pub is_name_byte : ℕ → Bool
is_name_byte byte = is_ascii_alphanumeric byte || byte == 43 || byte == 45 || byte == 46 || byte == 95

-- the name of a plugin: one or more of these
abbrev pub is_name : List ℕ → Bool
is_name name = nat_lt 0 (length name) && list_all is_name_byte name

-- a recipient's prefix is `age1` and the name, with case
-- standard: the prefix of a recipient is `age1` followed by the plugin's name
abbrev pub recipient_front : List ℕ
recipient_front = codes "age1"

-- an identity's prefix is `AGE-PLUGIN-`, then the name in upper case, then a hyphen
-- standard: the prefix of an identity is `AGE-PLUGIN-` followed by the plugin's name in upper case and a hyphen
abbrev pub identity_front : List ℕ
identity_front = codes "AGE-PLUGIN-"

-- without the hyphens at its end
pub record IsWithoutHyphens (bytes front : List ℕ) : Type 0 where
  pub count : ℕ
  pub all : bytes ≡ front ++ replicate count 45
  pub last : (before : List ℕ) → front ≢ before ++ 45 ∷ []

-- what a key says: the plugin's name and the key's text
pub record PluginKey : Type 0 where
  pub name : List ℕ
  pub text : List ℕ

-- the key of a recipient: its name follows the front of the prefix
pub record IsPluginRecipient (key : PluginKey) : Type 0 where
  pub bytes : List ℕ
  pub reads : IsBech32 key.text (recipient_front ++ key.name) bytes
  pub named : is_name key.name ≡ true

-- what a text is refused with that is no recipient of a plugin; one that is, for want of memory alone
abbrev pub RefusesRecipient : List ℕ → List ℕ → Type 0
RefusesRecipient text message =
    (IsNoBech32 text × (message ≡ codes "invalid Bech32 encoding"))
    ⊎ ((prefix : List ℕ) × (bytes : List ℕ) × IsBech32 text prefix bytes × ((name : List ℕ) → name ≢ [] → prefix ≢ recipient_front ++ name)
    × (message ≡ codes "invalid HRP"))
    ⊎ ((name : List ℕ) × (bytes : List ℕ) × IsBech32 text (recipient_front ++ name) bytes × (is_name name ≡ false) × (name ≢ [])
    × (message ≡ codes "invalid plugin name"))
    ⊎ ((key : PluginKey) × (key.text ≡ text) × IsPluginRecipient key × (message ≡ codes "out of memory"))

-- the key of an identity: its name is what follows the front of the prefix, without the hyphens at its end and in lower case
pub record IsPluginIdentity (key : PluginKey) : Type 0 where
  pub before : List ℕ
  pub bytes : List ℕ
  pub reads : IsBech32 key.text (identity_front ++ before ++ 45 ∷ []) bytes
  pub front : List ℕ
  pub trimmed : IsWithoutHyphens before front
  pub named : is_name front ≡ true
  pub lower : key.name ≡ lowered front

-- what a text is refused with that is no identity of a plugin; one that is, for want of memory alone
abbrev pub RefusesIdentity : List ℕ → List ℕ → Type 0
RefusesIdentity text message =
    (IsNoBech32 text × (message ≡ codes "invalid Bech32 encoding"))
    ⊎ ((prefix : List ℕ) × (bytes : List ℕ) × IsBech32 text prefix bytes × ((before : List ℕ) → prefix ≢ identity_front ++ before ++ 45 ∷ [])
    × (message ≡ codes "invalid HRP"))
    ⊎ ((before : List ℕ) × (front : List ℕ) × (bytes : List ℕ) × IsBech32 text (identity_front ++ before ++ 45 ∷ []) bytes
    × IsWithoutHyphens before front × (is_name front ≡ false) × (message ≡ codes "invalid plugin name"))
    ⊎ ((key : PluginKey) × (key.text ≡ text) × IsPluginIdentity key × (message ≡ codes "out of memory"))

-- a name in upper case
abbrev pub uppered : List ℕ → List ℕ
uppered name = map to_ascii_uppercase name

-- the identity of a plugin that needs no bytes: that of the name in upper case
pub record IsDefault (name : List ℕ) (key : PluginKey) : Type 0 where
  pub few : length name ≤ 71
  pub key_of : IsPluginIdentity key
  pub text : key.text ≡ bech32_text (identity_front ++ uppered name ++ 45 ∷ []) []

-- a name that has no such identity, since it is longer than 71 bytes, or since it is none or has nothing but hyphens; else memory was refused
abbrev pub RefusesDefault : List ℕ → ResolveRefusal → Type 0
RefusesDefault name refusal =
    ((refusal ≡ InvalidPluginName name)
    × ((71 < length name) ⊎ ((front : List ℕ) × IsWithoutHyphens (uppered name) front × (is_name front ≡ false))))
    ⊎ (refusal ≡ OutOfMemory)
