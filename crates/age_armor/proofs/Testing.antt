-- The code's tests of a line.
use Rattle.std.proofs.Common.{◌≡◌, ℕ, ◌==◌, Bool, List, [], ◌∷◌, ◌++◌, ap, sym, ◌∙◌, Result, Ok, Err}
use Rattle.base64.specs.declared.decode.DecodeError.{DecodeError}
use Rattle.base64.specs.declared.engine.general_purpose.GeneralPurpose.{GeneralPurpose}
use Rattle.base64.proofs.EngineFacts.{decode_of_strict, decode_of_iff}
use Rattle.age_base64.specs.Engine.{IsArmorEngine}
use Rattle.age_base64.proofs.Columns.{bytes-by_index}
use Rattle.age_armor.specs.Decoder.{DecodesArmor, RefusesNoArmor}
use Rattle.age_v1.specs.ArmorLineVerdict.{LineVerdict, last_is, but_last}
use Rattle.age_armor.specs.PrivateJudging.{IsJudged}
use Rattle.age_armor.specs.declared.judging.Judged.{Judged}
use Rattle.age_armor.specs.declared.judging.Judged.TheVariants as judged
use Rattle.age_v1.proofs.RawLines.{last_is_end, but_last_end}

pub last_of : (c : ℕ) (xs front : List ℕ) (last : ℕ) → xs ≡ front ++ last ∷ [] → (last_is c xs ≡ (last == c)) × (but_last xs ≡ front)
last_of c xs front last e = (ap (last_is c) e ∙ last_is_end front last c, ap but_last e ∙ but_last_end front last)

pub decodes_armor : (e : GeneralPurpose) → IsArmorEngine e → DecodesArmor e
decodes_armor e engine columns bytes index ok = decode_of_strict e columns bytes engine.1 index ok ∙ engine.0 bytes

ok_err : {X : Type 0} (b : List ℕ) (e : DecodeError) → Path (Result (List ℕ) DecodeError) (Ok b) (Err e) → X
ok_err b e p = cc p

pub refuses_no_armor : (e : GeneralPurpose) → IsArmorEngine e → RefusesNoArmor e
refuses_no_armor e engine columns bytes f index each same bad =
    ok_err bytes f (sym ((decode_of_iff e columns bytes engine.1 index (bytes-by_index bytes each)).1 (same ∙ sym (engine.0 bytes))) ∙ bad)

pub judged_by : (v w : LineVerdict) (short : Bool) (bytes : List ℕ) (j : Judged) → w ≡ v → IsJudged v short bytes j → IsJudged w short bytes j
judged_by v w short bytes (judged.Refuses e) same h = same ∙ h
judged_by v w short bytes judged.Ends same h = same ∙ h
judged_by v w short bytes (judged.Holds n is) same h = (same ∙ h.0, h.1, h.2)
