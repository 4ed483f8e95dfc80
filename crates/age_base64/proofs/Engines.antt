-- The engines over the format's alphabet.
use Rattle.std.proofs.Common.{◌≡◌, refl, ℕ, List, Bool, true, false, ap, sym, subst, ◌∙◌}
use Rattle.base64.specs.declared.engine.general_purpose.GeneralPurpose.{GeneralPurpose}
use Rattle.base64.specs.declared.engine.DecodePaddingMode.{DecodePaddingMode}
use Rattle.base64.specs.declared.engine.DecodePaddingMode.TheVariants.{RequireNone, RequireCanonical}
use Rattle.base64.specs.GeneralPurpose.{encode_of, IsConfig, engine_symbols, engine_padding, engine_config}
use Rattle.base64.specs.Engines.{standard, standard_no_pad}
use Rattle.base64.specs.Rfc4648.{encode}
use Rattle.base64.specs.Decode.{IsExact}
use Rattle.age_base64.specs.Base64.{symbols, columns, padded_columns}
use Rattle.age_base64.specs.Engine.{IsHeaderEngine, IsArmorEngine}

written : (e : GeneralPurpose) (padding : Bool) (mode : DecodePaddingMode) → engine_symbols e ≡ symbols → engine_padding e ≡ 61
    → IsConfig (engine_config e) padding false mode → (bytes : List ℕ) → encode_of e bytes ≡ encode symbols 61 padding bytes
written e padding mode s p k bytes =
    ap (λ t. encode t e.padding.value e.config.encode_padding bytes) s ∙ ap (λ x. encode symbols x e.config.encode_padding bytes) p
    ∙ ap (λ b. encode symbols 61 b bytes) k.0

pub header_engine_is : (e : GeneralPurpose) → engine_symbols e ≡ symbols → engine_padding e ≡ 61
    → IsConfig (engine_config e) false false RequireNone → IsHeaderEngine e
unfolding columns
header_engine_is e s p k = (written e false RequireNone s p k, (k.1, subst (λ m. IsExact m e.config.encode_padding) (sym k.2) k.0))

pub armor_engine_is : (e : GeneralPurpose) → engine_symbols e ≡ symbols → engine_padding e ≡ 61
    → IsConfig (engine_config e) true false RequireCanonical → IsArmorEngine e
unfolding padded_columns
armor_engine_is e s p k = (written e true RequireCanonical s p k, (k.1, subst (λ m. IsExact m e.config.encode_padding) (sym k.2) k.0))

-- those of the kit
pub unpadded_is_header : IsHeaderEngine standard_no_pad
unpadded_is_header = header_engine_is standard_no_pad refl refl (refl, refl, refl)

pub padded_is_armor : IsArmorEngine standard
padded_is_armor = armor_engine_is standard refl refl (refl, refl, refl)
