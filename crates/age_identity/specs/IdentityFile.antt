-- What a caller sees of an identity file.
use Rattle.std.specs.Prelude.{ℕ, List, map, Option, string_bytes}
use Rattle.std.specs.Option.{option_map}
use Rattle.age_identity.specs.Entries.{Entry, entry_of}
use Rattle.age_identity.specs.declared.identity.IdentityFile.{IdentityFile}

module _ {S C : Type 0} where
  -- the identities, in the order of the file
  abbrev pub entries_of : IdentityFile S C → List Entry
  entries_of file = map (λ e. entry_of e) file.entries.items

  -- the file's name, if it has one
  abbrev pub filename_of : IdentityFile S C → Option (List ℕ)
  filename_of file = option_map (λ text. string_bytes text) file.filename

  -- who is asked
  abbrev pub callbacks_of : IdentityFile S C → C
  callbacks_of file = file.callbacks
