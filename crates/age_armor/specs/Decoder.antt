-- What an engine that reads the base64 of armor decodes.
use Rattle.std.specs.Prelude.{◌≡◌, ℕ, List, Ok, Err}
use Rattle.base64.specs.GeneralPurpose.{decode_of, IsBytes}
use Rattle.base64.specs.declared.decode.DecodeError.{DecodeError}
use Rattle.base64.specs.declared.engine.general_purpose.GeneralPurpose.{GeneralPurpose}
use Rattle.age_error.specs.Bytes.{AreBytes}
use Rattle.age_base64.specs.Base64.{padded_columns}

-- what it decodes is the base64 of what it gives
abbrev pub DecodesArmor : GeneralPurpose → Type 0
DecodesArmor engine = (columns bytes : List ℕ) → IsBytes columns → decode_of engine columns ≡ Ok bytes → columns ≡ padded_columns bytes

-- it refuses no such base64
abbrev pub RefusesNoArmor : GeneralPurpose → Type 0
RefusesNoArmor engine = (columns bytes : List ℕ) (e : DecodeError) → IsBytes columns → AreBytes bytes → columns ≡ padded_columns bytes →
    decode_of engine columns ≡ Err e → ⊥
