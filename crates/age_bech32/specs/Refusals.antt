-- What is refused, and what it prints.
use Rattle.std.specs.Prelude.{◌≢◌, ℕ, List, codes, length}
use Rattle.age_bech32.specs.declared.error.Bech32Error.{Bech32Error}
use Rattle.age_bech32.specs.declared.error.Bech32Error.TheVariants.{Invalid, OutOfMemory}
use Rattle.age_bech32.specs.Symbols.{IsOneCase}
use Rattle.age_bech32.specs.Bech32.{IsPrefix, IsBech32, IsPayload}
use Rattle.age_bech32.specs.Groups.{IsRegrouped}

abbrev pub message : Bech32Error → List ℕ
message Invalid = codes "invalid Bech32 encoding"
message OutOfMemory = codes "out of memory"

-- a prefix that may be written: 1 to 83 bytes of 33 to 126, in one case
abbrev pub MayBeWritten : List ℕ → Type 0
MayBeWritten prefix = IsPrefix prefix × IsOneCase prefix

-- `Invalid` where the prefix may not be written, `OutOfMemory` elsewhere
abbrev pub IsRefusalOfPrefix : Bech32Error → List ℕ → Type 0
IsRefusalOfPrefix Invalid prefix = MayBeWritten prefix → ⊥
IsRefusalOfPrefix OutOfMemory prefix = MayBeWritten prefix

-- no bytes have these groups
abbrev pub AreNoGroups : List ℕ → Type 0
AreNoGroups groups = (bytes : List ℕ) → IsRegrouped bytes groups → ⊥

-- no bytes have this payload
abbrev pub IsNoPayload : List ℕ → List ℕ → Type 0
IsNoPayload prefix rest = (bytes : List ℕ) → IsPayload prefix rest bytes → ⊥

-- no prefix and bytes have this text
abbrev pub IsNoBech32 : List ℕ → Type 0
IsNoBech32 text = (prefix bytes : List ℕ) → IsBech32 text prefix bytes → ⊥

-- `Invalid` where the text is none, `OutOfMemory` elsewhere
abbrev pub IsRefusalOfText : Bech32Error → List ℕ → Type 0
IsRefusalOfText Invalid text = IsNoBech32 text
IsRefusalOfText OutOfMemory text = (prefix : List ℕ) × (bytes : List ℕ) × IsBech32 text prefix bytes

-- the text has this prefix and some bytes, but not so many
abbrev pub IsOfOtherSize : ℕ → List ℕ → List ℕ → Type 0
IsOfOtherSize size text prefix = (bytes : List ℕ) × IsBech32 text prefix bytes × (length bytes ≢ size)
