-- A text of which the length and the digest are taken.
use Rattle.std.specs.Prelude.{◌≡◌, ℕ, ◌+◌, ◌^◌, ◌≤◌, List, ◌++◌, length}
use Rattle.sha2.specs.Sha256.{sha256}
use Rattle.sha2.specs.Hashers.{Holds256}
use Rattle.age.specs.ErrorVariants.{TooLong}
use Rattle.age.specs.Types.{Error}
use Rattle.sazh_core.specs.declared.measuring.Measured.{Measured}
use Rattle.sazh_core.specs.declared.measuring.Measuring.{Measuring}

-- the writer was given this text
abbrev pub WasGiven : Measuring → List ℕ → Type 0
WasGiven writer text = Holds256 writer.digest text × (writer.count ≡ length text)

-- the second state is the first that was given these bytes besides
abbrev pub TookBytes : Measuring → List ℕ → Measuring → Type 0
TookBytes old bytes new = (text : List ℕ) → WasGiven old text → WasGiven new (text ++ bytes)

-- so many bytes are refused that those that it was given are 2^64 or more with them
abbrev pub RefusesMeasured : Measuring → ℕ → Error → Type 0
RefusesMeasured writer size e = (e ≡ TooLong) × (2 ^ 64 ≤ writer.count + size)

-- these are the length and the digest of a text
abbrev pub IsMeasured : Measured → List ℕ → Type 0
IsMeasured measured text = (measured.length ≡ length text) × (measured.sha256 ≡ sha256 text)
