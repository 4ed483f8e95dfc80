-- Lines of armor. Under "standard" stands what age-encryption.org/v1, section "ASCII armor", asks, in our words.
use Rattle.std.specs.Prelude.{ℕ, zero, suc, List, [], ◌++◌, take, drop}
use Rattle.age_base64.specs.Lines.{line}
use Rattle.age_base64.specs.Base64.{padded_columns}

-- so many lines, each with the base64 of 48 bytes
-- standard: each line but the last has 64 columns, and ends with LF
unfoldable pub full_lines : ℕ → List ℕ → List ℕ
full_lines zero bytes = []
full_lines (suc n) bytes = line (padded_columns (take 48 bytes)) ++ full_lines n (drop 48 bytes)
