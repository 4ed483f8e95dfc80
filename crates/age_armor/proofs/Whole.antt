-- What a reader of armor delivers to a clean end, and what the text carries.
use Rattle.std.proofs.Common.{◌≡◌, true, IsTrue, List, ℕ, refl, ap, sym, ◌∙◌}
use Rattle.std.proofs.lemmas.Bool.{true≢false}
use Rattle.age_error.specs.Bytes.{AreBytes}
use Rattle.age_io.specs.Stretch.{Stretch, whole}
use Rattle.age_v1.specs.Armor.{Carries}
use Rattle.age_v1.specs.DeliveredArmor.{Outcome, Ending, Clean, Refused, InnerFault, is_clean, text_delivers, stretch_of}
use Rattle.age_armor.specs.ReaderLemmas.{clean_well}
use Rattle.age_v1.proofs.CarriedDelivered.{carried_delivered}
use Rattle.age_v1.proofs.CleanEnds.{delivered_carried}

clean_is : (e : Ending) → is_clean e ≡ true → e ≡ Clean
clean_is Clean h = refl
clean_is (Refused f) h = absurd (true≢false (sym h))
clean_is InnerFault h = absurd (true≢false (sym h))

outcome-ext : (o : Outcome) → o.ending ≡ Clean → o ≡ record { bytes = o.bytes; ending = Clean }
outcome-ext o e = ap (λ z. let made : Outcome = record { bytes = o.bytes; ending = z } in made) e

pub rest_carries : (rest : Stretch) → IsTrue (stretch_of (text_delivers rest.bytes rest.ends_well)).ends_well →
    IsTrue rest.ends_well × (AreBytes rest.bytes → Carries rest.bytes (stretch_of (text_delivers rest.bytes rest.ends_well)).bytes)
rest_carries rest well =
    let o = text_delivers rest.bytes rest.ends_well in
    let w = clean_well rest.bytes rest.ends_well well in
    (w, λ bytes. delivered_carried rest.bytes o.bytes bytes (ap (text_delivers rest.bytes) (sym w) ∙ outcome-ext o (clean_is o.ending well)))

pub carried_rest : (rest : Stretch) (bytes : List ℕ) → IsTrue rest.ends_well → Carries rest.bytes bytes →
    stretch_of (text_delivers rest.bytes rest.ends_well) ≡ whole bytes
carried_rest rest bytes well carried = ap stretch_of (ap (text_delivers rest.bytes) well ∙ carried_delivered rest.bytes bytes carried)
