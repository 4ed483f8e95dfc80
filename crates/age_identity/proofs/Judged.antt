-- What is found of a line.
use Rattle.std.proofs.Common.{◌≡◌, inl, inr, refl, ap, ℕ, List, [], ◌∷◌, ◌++◌}
use Rattle.std.specs.Str.{IsUtf8}
use Rattle.age_v1.specs.X25519.{identity_prefix, IsKeyText}
use Rattle.age_keys.specs.PluginKeys.{PluginKey, IsPluginIdentity}
use Rattle.age_identity.specs.Entries.{Entry, Native, Plugin, IsPassedOver, IsEntry, IsBadLine, AreEntries}

-- a line that is no text of an identity
pub no_text : (line : List ℕ) → (IsPassedOver line → ⊥) → ((secret : List ℕ) → IsKeyText identity_prefix line secret → ⊥)
    → ((key : PluginKey) → key.text ≡ line → IsPluginIdentity key → ⊥) → IsBadLine line
no_text line other no_native no_plugin = (other, no_entry)
  where
    no_entry : (e : Entry) → IsEntry line e → ⊥
    no_entry (Native secret) is = no_native secret is.1
    no_entry (Plugin key) is = no_plugin key is.1.0 is.1.1

-- a line that isn't UTF-8
pub not_utf8 : (line : List ℕ) → (IsUtf8 line → ⊥) → IsBadLine line
not_utf8 line other = ((λ passed. other passed.0), (λ e is. other is.0))

-- one line more that is passed over
pub entries_passed : (before : List (List ℕ)) (line : List ℕ) (entries : List Entry) → AreEntries before entries → IsPassedOver line
    → AreEntries (before ++ line ∷ []) entries
entries_passed [] line entries none passed = inl (passed, none)
entries_passed (first ∷ before) line entries (inl over) passed = inl (over.0, entries_passed before line entries over.1 passed)
entries_passed (first ∷ before) line entries (inr found) passed =
    inr (found.0, found.1, found.2, found.3, entries_passed before line found.1 found.4 passed)

-- one line more that is the text of an entry
pub entries_found : (before : List (List ℕ)) (line : List ℕ) (entries : List Entry) (e : Entry) → AreEntries before entries → IsEntry line e
    → AreEntries (before ++ line ∷ []) (entries ++ e ∷ [])
entries_found [] line entries e none is = inr (e, [], ap (λ es. es ++ e ∷ []) none, is, refl)
entries_found (first ∷ before) line entries e (inl over) is = inl (over.0, entries_found before line entries e over.1 is)
entries_found (first ∷ before) line entries e (inr found) is =
    inr (found.0, found.1 ++ e ∷ [], ap (λ es. es ++ e ∷ []) found.2, found.3, entries_found before line found.1 e found.4 is)
