-- What a reader of armor holds, and what is ahead of it.
use Rattle.std.proofs.Common.{◌≡◌, ℕ, ◌+◌, ◌-◌, ◌≤◌, Bool, true, false, List, [], ◌++◌, length, take, drop, refl, ap, sym, arith, ◌∙◌, append_assoc, length-append, length-drop, length-take-le, inl, inr}
use Rattle.std.proofs.lemmas.Bool.{true≢false}
use Rattle.std.proofs.lemmas.List.{drop_all, drop-drop, take-append-drop, drop_at, nil_from_length}
use Rattle.age_io.specs.Stretch.{Stretch, nothing, from_place, stretch-ext, IsCleanEnd, IsFault}
use Rattle.age_io.specs.Filling.{IsFront}
use Rattle.age_error.specs.declared.io.Error.{Error}
use Rattle.age_io.specs.Reading.{Delivers, StandsIn}
use Rattle.age_armor.specs.declared.stages.Stage.{Stage}
use Rattle.age_armor.specs.declared.stages.Stage.TheVariants.{Start, Binary, Lines, Ended}
use Rattle.age_armor.specs.Stages.{ahead, NamesEnding}
use Rattle.age_armor.specs.PrivateStages.{is_ended, Advances, StopsWith}
use Rattle.age_armor.specs.Ahead.{rest_ahead, shown_ahead, outcome_ahead}
use Rattle.age_v1.specs.DeliveredArmor.{Ending, Clean, Refused, InnerFault, ends_in, is_clean, at_end, stretch_of, text_delivers}
use Rattle.age_armor.specs.ReaderLemmas.{nothing_delivered}
use Rattle.age_v1.proofs.DeliveredArmors.{content_of}

pub rest_failed : (held : List ℕ) (stage : Stage) (rest : Stretch) → rest_ahead true held stage rest ≡ nothing
unfolding rest_ahead
rest_failed held stage rest = refl

-- ---- bytes that are given

pub gives_front : (failed : Bool) (held front : List ℕ) (n : ℕ) (stage : Stage) (rest : Stretch) → failed ≡ false → front ≡ take n held →
    Delivers front (rest_ahead failed held stage rest) (rest_ahead failed (drop n held) stage rest)
unfolding rest_ahead
gives_front failed held front n stage rest good same =
    let parts : front ++ drop n held ≡ held = ap (λ f. f ++ drop n held) same ∙ take-append-drop n held in
    rw good (record {
      bytes = ap (λ x. x ++ (stretch_of (ahead stage rest)).bytes) (sym parts)
          ∙ append_assoc front (drop n held) (stretch_of (ahead stage rest)).bytes;
      end = refl;
    })

pub shown_fits : (failed : Bool) (held : List ℕ) (n : ℕ) → n ≤ length (shown_ahead failed held) → n ≤ length held
unfolding shown_ahead
shown_fits true held n most = omega (arith, most)
shown_fits false held n most = most

-- it shows at most one line's bytes
pub shown_small : (failed : Bool) (held : List ℕ) → length held ≤ 48 → length (shown_ahead failed held) ≤ 48
unfolding shown_ahead
shown_small true held most = omega arith
shown_small false held most = most

-- a failed reader shows nothing
pub shown_gone : (failed : Bool) (held : List ℕ) (n : ℕ) → failed ≡ true → n ≤ length (shown_ahead failed held) → n ≡ 0
unfolding shown_ahead
shown_gone true held n gone most = omega (arith, most)
shown_gone false held n gone most = absurd (true≢false (sym gone))

pub gives_shown : (failed : Bool) (held : List ℕ) (n : ℕ) (stage : Stage) (rest : Stretch) → n ≤ length (shown_ahead failed held) →
    Delivers (take n (shown_ahead failed held)) (rest_ahead failed held stage rest) (rest_ahead failed (drop n held) stage rest)
unfolding shown_ahead rest_ahead
gives_shown true held n stage rest most =
    let none : n ≡ 0 = omega (arith, most) in
    record { bytes = rw none refl; end = refl }
gives_shown false held n stage rest most = gives_front false held (take n held) n stage rest refl refl

pub length_shown : (failed : Bool) (held : List ℕ) (n : ℕ) → n ≤ length (shown_ahead failed held) → n ≡ length (take n (shown_ahead failed held))
length_shown failed held n most = sym (length-take-le n (shown_ahead failed held) most)

pub shown_further : (failed : Bool) (held : List ℕ) (n : ℕ) → shown_ahead failed (drop n held) ≡ drop n (shown_ahead failed held)
unfolding shown_ahead
shown_further true held n = sym (drop_all n [] (omega arith))
shown_further false held n = refl

-- ---- where it stands

pub kept_stands : (content other rest new : Stretch) (place : ℕ) → other ≡ content → new ≡ rest → StandsIn content place rest
    → StandsIn other place new
kept_stands content other rest new place p q h = rw (p, q) h

pub given_stands : (content rest new : Stretch) (place n : ℕ) (xs : List ℕ) → n ≡ length xs → Delivers xs rest new → StandsIn content place rest
    → StandsIn content (place + n) new
given_stands content rest new place n xs size d stands = elim stands.reaches [
  | inl e ↦
      let bytes : drop place content.bytes ≡ xs ++ new.bytes = ap (λ s. s.bytes) (sym e) ∙ d.bytes in
      let len : length content.bytes - place ≡ length xs + length new.bytes =
      sym (length-drop place content.bytes) ∙ ap length bytes ∙ length-append xs new.bytes in
      let after : drop (place + n) content.bytes ≡ new.bytes =
      sym (drop-drop n place content.bytes) ∙ ap (drop n) bytes ∙ drop_at xs new.bytes n (sym size) in
      record {
        within = omega (arith, len, size, stands.within);
        reaches = inl (stretch-ext new (from_place (place + n) content) (sym after) (d.end ∙ ap (λ s. s.ends_well) e));
      }
  | inr e ↦
      let gone : [] ≡ xs ++ new.bytes = ap (λ s. s.bytes) (sym e) ∙ d.bytes in
      let len : 0 ≡ length xs + length new.bytes = ap length gone ∙ length-append xs new.bytes in
      record {
        within = omega (arith, len, size, stands.within);
        reaches = inr (stretch-ext new nothing (nil_from_length new.bytes (omega (arith, len))) (d.end ∙ ap (λ s. s.ends_well) e));
      }
]

-- ---- what is held and shown

pub shown_held : (failed : Bool) (held : List ℕ) → failed ≡ false → shown_ahead failed held ≡ held
unfolding shown_ahead
shown_held failed held good = rw good refl

-- nothing is shown where nothing is held
pub shown_none : (failed : Bool) (held : List ℕ) → held ≡ [] → shown_ahead failed held ≡ []
unfolding shown_ahead
shown_none true held none = refl
shown_none false held none = none

pub length_held : (failed : Bool) (held : List ℕ) → failed ≡ false → length (shown_ahead failed held) ≡ length held
length_held failed held good = ap length (shown_held failed held good)

-- nothing is left of a failed reader
pub rest_gone : (failed : Bool) (held : List ℕ) (stage : Stage) (rest : Stretch) → failed ≡ true → rest_ahead failed held stage rest ≡ nothing
rest_gone failed held stage rest gone = ap (λ b. rest_ahead b held stage rest) gone ∙ rest_failed held stage rest

pub fault_gone : (failed : Bool) (held : List ℕ) (stage : Stage) (rest : Stretch) → failed ≡ true → IsFault (rest_ahead failed held stage rest)
fault_gone failed held stage rest gone = rw (rest_gone failed held stage rest gone) (record { bytes = refl; ends_badly = refl })

pub front_held : (failed : Bool) (held : List ℕ) (stage : Stage) (rest : Stretch) → failed ≡ false → IsFront held (rest_ahead failed held stage rest)
unfolding rest_ahead
front_held failed held stage rest good = record { more = (stretch_of (ahead stage rest)).bytes; bytes = rw good refl }

pub ending_same : (held next : List ℕ) (stage : Stage) (rest : Stretch)
    → (outcome_ahead next stage rest).ending ≡ (outcome_ahead held stage rest).ending
unfolding outcome_ahead
ending_same held next stage rest = refl

-- ---- a new reader

pub starts_outcome : (held : List ℕ) (rest : Stretch) → held ≡ [] → outcome_ahead held Start rest ≡ text_delivers rest.bytes rest.ends_well
unfolding outcome_ahead
starts_outcome held rest none = rw none refl

pub starts_rest : (held : List ℕ) (rest : Stretch) → held ≡ []
    → rest_ahead false held Start rest ≡ stretch_of (text_delivers rest.bytes rest.ends_well)
unfolding rest_ahead
starts_rest held rest none = rw none refl

pub starts : (content rest : Stretch) (place : ℕ) (held : List ℕ) → held ≡ [] → StandsIn content place rest →
    StandsIn (content_of content place) 0 (rest_ahead false held Start rest)
unfolding rest_ahead
starts content rest place held none inner = rw none (record {
  within = omega arith;
  reaches = elim inner.reaches [
    | inl e ↦ inl (ap (λ s. stretch_of (text_delivers s.bytes s.ends_well)) e)
    | inr e ↦ inr (ap (λ s. stretch_of (text_delivers s.bytes s.ends_well)) e ∙ nothing_delivered)
  ];
})

-- ---- bytes that were read

pub hold_rest : (failed : Bool) (old held : List ℕ) (stage next : Stage) (rest new : Stretch) → failed ≡ false → old ≡ [] →
    Advances (ahead stage rest) held (ahead next new) → rest_ahead failed held next new ≡ rest_ahead failed old stage rest
unfolding rest_ahead
hold_rest failed old held stage next rest new good empty advances = rw (good, empty, advances.same) refl

pub hold_ending : (old held : List ℕ) (stage next : Stage) (rest new : Stretch) → Advances (ahead stage rest) held (ahead next new) →
    (outcome_ahead held next new).ending ≡ (outcome_ahead old stage rest).ending
unfolding outcome_ahead
hold_ending old held stage next rest new advances = sym (ap (λ o. o.ending) advances.same)

pub hold_end : (failed : Bool) (old : List ℕ) (stage : Stage) (rest : Stretch) → failed ≡ false → old ≡ [] → ahead stage rest ≡ ends_in Clean →
    IsCleanEnd (rest_ahead failed old stage rest)
unfolding rest_ahead
hold_end failed old stage rest good empty end = rw (good, empty, end) (record { bytes = refl; ends_well = refl })

dirty : (end : Ending) (e : Error) → NamesEnding end e → is_clean end ≡ false
dirty Clean e named = absurd named
dirty (Refused f) e named = refl
dirty InnerFault e named = refl

-- where nothing is held, what is ahead is all
pub outcome_none : (old : List ℕ) (stage : Stage) (rest : Stretch) → old ≡ [] → outcome_ahead old stage rest ≡ ahead stage rest
unfolding outcome_ahead
outcome_none old stage rest empty = rw empty refl

pub hold_fault : (failed : Bool) (old : List ℕ) (stage : Stage) (rest : Stretch) (e : Error) → failed ≡ false → old ≡ []
    → StopsWith (ahead stage rest) e →
    IsFault (rest_ahead failed old stage rest)
unfolding rest_ahead
hold_fault failed old stage rest e good empty stops =
    rw (good, empty) (record { bytes = stops.nothing; ends_badly = dirty (ahead stage rest).ending e stops.named })

pub hold_named : (old : List ℕ) (stage : Stage) (rest : Stretch) (e : Error) → StopsWith (ahead stage rest) e →
    NamesEnding (outcome_ahead old stage rest).ending e
unfolding outcome_ahead
hold_named old stage rest e stops = stops.named

pub ended_clean : (stage : Stage) (rest : Stretch) → is_ended stage ≡ true → ahead stage rest ≡ ends_in Clean
ended_clean Start rest e = absurd (true≢false (sym e))
ended_clean Binary rest e = absurd (true≢false (sym e))
ended_clean (Lines s) rest e = absurd (true≢false (sym e))
ended_clean Ended rest e = refl

-- ---- a binary text

pub pass_delivers : (failed : Bool) (held front : List ℕ) (stage : Stage) (old new : Stretch) → failed ≡ false → stage ≡ Binary → held ≡ [] →
    Delivers front old new → Delivers front (rest_ahead failed held stage old) (rest_ahead failed held stage new)
unfolding rest_ahead
pass_delivers failed held front stage old new good binary none d =
    rw (good, binary, none) (record { bytes = d.bytes; end = ap (λ w. is_clean (at_end w Clean)) d.end })

pub pass_end : (failed : Bool) (held : List ℕ) (stage : Stage) (rest : Stretch) → failed ≡ false → stage ≡ Binary → held ≡ [] → IsCleanEnd rest →
    IsCleanEnd (rest_ahead failed held stage rest)
unfolding rest_ahead
pass_end failed held stage rest good binary none clean =
    rw (good, binary, none) (record { bytes = clean.bytes; ends_well = ap (λ w. is_clean (at_end w Clean)) clean.ends_well })

pub pass_fault : (failed : Bool) (held : List ℕ) (stage : Stage) (rest : Stretch) → failed ≡ false → stage ≡ Binary → held ≡ [] → IsFault rest →
    IsFault (rest_ahead failed held stage rest)
unfolding rest_ahead
pass_fault failed held stage rest good binary none fault =
    rw (good, binary, none) (record { bytes = fault.bytes; ends_badly = ap (λ w. is_clean (at_end w Clean)) fault.ends_badly })

pub pass_named : (held : List ℕ) (stage : Stage) (rest : Stretch) (e : Error) → stage ≡ Binary → IsFault rest →
    NamesEnding (outcome_ahead held stage rest).ending e
unfolding outcome_ahead
pass_named held stage rest e binary fault = rw (binary, fault.ends_badly) tt

pub pass_ending : (held front : List ℕ) (stage : Stage) (old new : Stretch) → stage ≡ Binary → Delivers front old new →
    (outcome_ahead held stage new).ending ≡ (outcome_ahead held stage old).ending
unfolding outcome_ahead
pass_ending held front stage old new binary d = rw binary (ap (λ w. at_end w Clean) d.end)
