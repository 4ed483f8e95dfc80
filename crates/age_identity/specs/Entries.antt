-- What the lines of an identity file are: each is passed over, or the text of an identity, or bad.
use Rattle.std.specs.Prelude.{◌≡◌, ◌⊎◌, ℕ, List, [], ◌∷◌}
use Rattle.std.specs.Str.{IsUtf8}
use Rattle.age_v1.specs.X25519.{identity_prefix, IsKeyText}
use Rattle.age_keys.specs.PluginKeys.{PluginKey, IsPluginIdentity}
use Rattle.age_identity.specs.declared.entry.IdentityFileEntry.{IdentityFileEntry}
use Rattle.age_identity.specs.declared.entry.IdentityFileEntry.TheVariants as entry

-- what a line stands for: the secret of a native identity, or the key of a plugin's
pub data Entry : Type 0 where
  Native : List ℕ → Entry
  Plugin : PluginKey → Entry

-- what an entry of the code stands for
abbrev pub entry_of : {S : Type 0} → IdentityFileEntry S → Entry
entry_of (entry.Native secret) = Native secret
entry_of (entry.Plugin key) = Plugin key

-- a line that is passed over: it is empty, or begins with `#`
abbrev pub IsPassedOver : List ℕ → Type 0
IsPassedOver line = IsUtf8 line × ((line ≡ []) ⊎ ((rest : List ℕ) × (line ≡ 35 ∷ rest)))

-- the text of an entry
abbrev pub IsTextOf : Entry → List ℕ → Type 0
IsTextOf (Native secret) line = IsKeyText identity_prefix line secret
IsTextOf (Plugin key) line = (key.text ≡ line) × IsPluginIdentity key

-- a line that is the text of an entry
abbrev pub IsEntry : List ℕ → Entry → Type 0
IsEntry line e = IsUtf8 line × IsTextOf e line

-- any other line: it isn't UTF-8, or it is no text of an identity and isn't passed over
abbrev pub IsBadLine : List ℕ → Type 0
IsBadLine line = (IsPassedOver line → ⊥) × ((e : Entry) → IsEntry line e → ⊥)

-- the entries of lines of which none is bad, in their order
abbrev pub AreEntries : List (List ℕ) → List Entry → Type 0
AreEntries [] entries = entries ≡ []
AreEntries (line ∷ more) entries = (IsPassedOver line × AreEntries more entries)
    ⊎ ((first : Entry) × (others : List Entry) × (entries ≡ first ∷ others) × IsEntry line first × AreEntries more others)
