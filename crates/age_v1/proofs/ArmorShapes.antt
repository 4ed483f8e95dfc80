-- The shapes of a text by its front, and what a text of each delivers.
use Rattle.std.proofs.Common.{◌≡◌, ◌≢◌, ℕ, ◌<◌, ◌≤◌, ◌⊎◌, inl, inr, Bool, true, false, List, [], ◌∷◌, ◌++◌, length, take, drop, refl, ap, sym, ◌∙◌, nat_lt, nat_eq, append_assoc}
use Rattle.std.specs.List.{starts_with}
use Rattle.std.specs.Cmp.Lexicographic.{bytes_decides}
use Rattle.std.proofs.lemmas.Bool.{true≢false, cases_Bool, cases_lt, lt-ltb, le-ltb}
use Rattle.std.proofs.lemmas.List.{append_cancel_left, take_at, drop_at, take-append-drop}
use Rattle.age_error.specs.declared.io.Error.TheVariants.{Armor, UnexpectedEof}
use Rattle.age_error.specs.declared.io.ArmoredReadError.TheVariants.{InvalidBeginMarker}
use Rattle.age_v1.specs.Armor.{begin_marker, IsEndedLine, CarriesBinary}
use Rattle.age_v1.specs.DeliveredArmor.{Clean, Refused, ends_in, at_end, raw_lines, section, after_marker, text_delivers}
use Rattle.age_v1.specs.ArmorFirstFault.{HasOpenMarker, HasMarkerLine}

-- ---- beginnings

-- a text that begins with a list
pub begins : (xs rest : List ℕ) → starts_with nat_eq (xs ++ rest) xs ≡ true
begins xs rest = (bytes_decides xs (take (length xs) (xs ++ rest))).1 (sym (take_at xs rest (length xs) refl))

pub begins_back : (xs text : List ℕ) → starts_with nat_eq text xs ≡ true → text ≡ xs ++ drop (length xs) text
begins_back xs text e =
    let front = (bytes_decides xs (take (length xs) text)).0 e in
    sym (take-append-drop (length xs) text) ∙ ap (λ f. f ++ drop (length xs) text) (sym front)

-- what follows the begin marker, where a line ending does
after_ending : (k first rest : List ℕ) → begin_marker ++ k ≡ first ++ rest → IsEndedLine begin_marker first → (k ≡ 10 ∷ rest) ⊎ (k ≡ 13 ∷ 10 ∷ rest)
after_ending k first rest e (inl h) = inl
    (append_cancel_left begin_marker k (10 ∷ rest) (e ∙ ap (λ f. f ++ rest) h ∙ append_assoc begin_marker (10 ∷ []) rest))
after_ending k first rest e (inr h) = inr
    (append_cancel_left begin_marker k (13 ∷ 10 ∷ rest) (e ∙ ap (λ f. f ++ rest) h ∙ append_assoc begin_marker (13 ∷ 10 ∷ []) rest))

-- ---- the shapes

-- each text has one of four shapes
abbrev pub Shape : List ℕ → Type 0
Shape text = (length text < 36) ⊎ CarriesBinary text text ⊎ HasOpenMarker text ⊎ HasMarkerLine text

marker_shape : (text k : List ℕ) → 36 ≤ length text → text ≡ begin_marker ++ k → HasOpenMarker text ⊎ HasMarkerLine text
marker_shape text k size e = elim (cases_Bool (starts_with nat_eq k (10 ∷ []))) [
  | inl lf ↦ inr (record {
    size = size;
    first = begin_marker ++ 10 ∷ [];
    rest = drop 1 k;
    whole = e ∙ ap (λ y. begin_marker ++ y) (begins_back (10 ∷ []) k lf) ∙ sym (append_assoc begin_marker (10 ∷ []) (drop 1 k));
    marker = inl refl;
  })
  | inr no_lf ↦ elim (cases_Bool (starts_with nat_eq k (13 ∷ 10 ∷ []))) [
    | inl crlf ↦ inr (record {
      size = size;
      first = begin_marker ++ 13 ∷ 10 ∷ [];
      rest = drop 2 k;
      whole = e ∙ ap (λ y. begin_marker ++ y) (begins_back (13 ∷ 10 ∷ []) k crlf) ∙ sym (append_assoc begin_marker (13 ∷ 10 ∷ []) (drop 2 k));
      marker = inr refl;
    })
    | inr no_crlf ↦ inl (record {
      size = size;
      after = k;
      marker = e;
      unended = λ first rest whole marker. elim (after_ending k first rest (sym e ∙ whole) marker) [
        | inl f ↦ true≢false (sym (ap (λ y. starts_with nat_eq y (10 ∷ [])) f ∙ begins (10 ∷ []) rest) ∙ no_lf)
        | inr f ↦ true≢false (sym (ap (λ y. starts_with nat_eq y (13 ∷ 10 ∷ [])) f ∙ begins (13 ∷ 10 ∷ []) rest) ∙ no_crlf)
      ];
    })
  ]
]

pub shape_of : (text : List ℕ) → Shape text
shape_of text = elim (cases_lt (length text) 36) [
  | inl short ↦ inl short
  | inr size ↦ elim (cases_Bool (starts_with nat_eq text begin_marker)) [
    | inl begin ↦ inr (inr (marker_shape text (drop 34 text) size (begins_back begin_marker text begin)))
    | inr other ↦ inr (inl (record {
      size = size;
      no_marker = λ rest e. true≢false (sym (ap (λ y. starts_with nat_eq y begin_marker) e ∙ begins begin_marker rest) ∙ other);
      same = refl;
    }))
  ]
]

-- ---- what each delivers

pub early_delivers : (text : List ℕ) (ends_well : Bool) → length text < 36
    → text_delivers text ends_well ≡ ends_in (at_end ends_well (Refused UnexpectedEof))
unfolding text_delivers
early_delivers text ends_well short = rw (lt-ltb (length text) 36 short) refl

pub plain_delivers : (text : List ℕ) (ends_well : Bool) → 36 ≤ length text → ((rest : List ℕ) → text ≢ begin_marker ++ rest) →
    text_delivers text ends_well ≡ record { bytes = text; ending = at_end ends_well Clean }
unfolding text_delivers
plain_delivers text ends_well size plain =
    let long : nat_lt (length text) 36 ≡ false = le-ltb (length text) 36 size in
    let other : starts_with nat_eq text begin_marker ≡ false = elim (cases_Bool (starts_with nat_eq text begin_marker)) [
      | inl e ↦ absurd (plain (drop 34 text) (begins_back begin_marker text e))
      | inr e ↦ e
    ] in
    rw (long, other) refl

begun_delivers : (text k : List ℕ) (ends_well : Bool) → 36 ≤ length text → text ≡ begin_marker ++ k
    → text_delivers text ends_well ≡ after_marker k ends_well
unfolding text_delivers
begun_delivers text k ends_well size whole =
    let long : nat_lt (length text) 36 ≡ false = le-ltb (length text) 36 size in
    let begin : starts_with nat_eq text begin_marker ≡ true = ap (λ y. starts_with nat_eq y begin_marker) whole ∙ begins begin_marker k in
    let after : drop 34 text ≡ k = ap (drop 34) whole ∙ drop_at begin_marker k 34 refl in
    rw (long, begin, after) refl

open_delivers : (k : List ℕ) (ends_well : Bool) → ((rest : List ℕ) → k ≢ 10 ∷ rest) → ((rest : List ℕ) → k ≢ 13 ∷ 10 ∷ rest) →
    after_marker k ends_well ≡ ends_in (Refused (Armor InvalidBeginMarker))
open_delivers k ends_well no_lf no_crlf =
    let lf : starts_with nat_eq k (10 ∷ []) ≡ false = elim (cases_Bool (starts_with nat_eq k (10 ∷ []))) [
      | inl e ↦ absurd (no_lf (drop 1 k) (begins_back (10 ∷ []) k e))
      | inr e ↦ e
    ] in
    let crlf : starts_with nat_eq k (13 ∷ 10 ∷ []) ≡ false = elim (cases_Bool (starts_with nat_eq k (13 ∷ 10 ∷ []))) [
      | inl e ↦ absurd (no_crlf (drop 2 k) (begins_back (13 ∷ 10 ∷ []) k e))
      | inr e ↦ e
    ] in
    rw (lf, crlf) refl

pub open_marker_delivers : (text : List ℕ) (ends_well : Bool) → HasOpenMarker text
    → text_delivers text ends_well ≡ ends_in (Refused (Armor InvalidBeginMarker))
open_marker_delivers text ends_well p =
    let lf : (rest : List ℕ) → p.after ≢ 10 ∷ rest = λ rest e.
    p.unended (begin_marker ++ 10 ∷ []) rest (p.marker ∙ ap (λ y. begin_marker ++ y) e ∙ sym (append_assoc begin_marker (10 ∷ []) rest)) (inl refl) in
    let crlf : (rest : List ℕ) → p.after ≢ 13 ∷ 10 ∷ rest = λ rest e.
    p.unended (begin_marker ++ 13 ∷ 10 ∷ []) rest (p.marker ∙ ap (λ y. begin_marker ++ y) e ∙ sym (append_assoc begin_marker (13 ∷ 10 ∷ []) rest))
    (inr refl) in
    begun_delivers text p.after ends_well p.size p.marker ∙ open_delivers p.after ends_well lf crlf

line_delivers : (k first rest : List ℕ) (ends_well : Bool) → begin_marker ++ k ≡ first ++ rest → IsEndedLine begin_marker first
    → after_marker k ends_well ≡ section false (raw_lines rest) ends_well
line_delivers k first rest ends_well e marker = elim (after_ending k first rest e marker) [
  | inl f ↦ ap (λ y. after_marker y ends_well) f
  | inr f ↦ ap (λ y. after_marker y ends_well) f
]

ended_begins : (first rest : List ℕ) → IsEndedLine begin_marker first → (k : List ℕ) × (first ++ rest ≡ begin_marker ++ k)
ended_begins first rest (inl e) = (10 ∷ rest, ap (λ f. f ++ rest) e ∙ append_assoc begin_marker (10 ∷ []) rest)
ended_begins first rest (inr e) = (13 ∷ 10 ∷ rest, ap (λ f. f ++ rest) e ∙ append_assoc begin_marker (13 ∷ 10 ∷ []) rest)

-- after the begin marker's line what the lines deliver
pub marker_line_delivers : (text first rest : List ℕ) (ends_well : Bool) → 36 ≤ length text → text ≡ first ++ rest → IsEndedLine begin_marker first →
    text_delivers text ends_well ≡ section false (raw_lines rest) ends_well
marker_line_delivers text first rest ends_well size whole marker =
    let (k, begins) = ended_begins first rest marker in
    begun_delivers text k ends_well size (whole ∙ begins) ∙ line_delivers k first rest ends_well (sym begins) marker
