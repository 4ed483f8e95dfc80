-- The engines that encode and decode the format's base64.
use Rattle.std.specs.Prelude.{◌≡◌, ℕ, List}
use Rattle.base64.specs.declared.engine.general_purpose.GeneralPurpose.{GeneralPurpose}
use Rattle.base64.specs.GeneralPurpose.{encode_of, IsStrict}
use Rattle.age_base64.specs.Base64.{columns, padded_columns}

-- it writes the base64 of headers, and takes nothing else
abbrev pub IsHeaderEngine : GeneralPurpose → Type 0
IsHeaderEngine e = ((bytes : List ℕ) → encode_of e bytes ≡ columns bytes) × IsStrict e

-- it writes the base64 of armor, and takes nothing else
abbrev pub IsArmorEngine : GeneralPurpose → Type 0
IsArmorEngine e = ((bytes : List ℕ) → encode_of e bytes ≡ padded_columns bytes) × IsStrict e
