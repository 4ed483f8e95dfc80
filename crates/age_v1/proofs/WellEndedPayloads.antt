-- Payloads that end well: what stands from each chunk on, and how long they are.
use Rattle.std.specs.Prelude.{◌≡◌, ℕ, ◌+◌, ◌-◌, ◌*◌, ◌/◌, ◌^◌, ◌<◌, ◌≤◌, ◌==◌, ◌&&◌, ◌⊎◌, nat_lt, Option, Some, None, Result, Ok, Err, Bool, true, false, cond, List, [], ◌∷◌, ◌++◌, length, take, drop, option_map}
use Rattle.std.proofs.Common.{zero, suc, refl, sym, ap, ◌∙◌, inl, inr, arith, length-append, length-take, length-drop, add-zero}
use Rattle.std.proofs.lemmas.List.{append-nil, drop_at, take-append-drop, drop-drop, take_all}
use Rattle.std.proofs.lemmas.List.Elements.{All-drop, All-take}
use Rattle.std.proofs.lemmas.Bool.{cases_lt, ltb-true, ltb-false, eqb-true}
use Rattle.age_error.specs.Bytes.{AreBytes}
use Rattle.age_io.specs.Stretch.{Stretch, nothing, from_place, stretch-ext}
use Rattle.age_error.specs.declared.io.Error.{Error}
use Rattle.age_error.specs.declared.io.Error.TheVariants.{LastChunkEmpty, TooLong}
use Rattle.age_v1.specs.Payload.{chunk_nonce}
use Rattle.age_v1.proofs.OpenedTexts.{Shorter}
use Rattle.age_v1.specs.DeliveredPayload.{Chunk, is_empty, allowed_if, or_else, opened_chunk, chunk_of, prepend, after_last, after_chunk, delivers, payload_delivers}
use Rattle.age_v1.proofs.DeliveredChunks.{delivered-full, delivered-short}

err-ok : {X : Type 0} {e : Error} {c : Chunk} → ◌≡◌ {A = Result Chunk Error} (Err e) (Ok c) → X
err-ok is = cc

false-true : {X : Type 0} → false ≡ true → X
false-true is = cc

none-some : {X : Type 0} {c : Chunk} → ◌≡◌ {A = Option Chunk} None (Some c) → X
none-some is = cc

-- ---- what an accepted verdict says

pub record Accepted (opened : List ℕ → List ℕ → List ℕ → Option (List ℕ)) (key : List ℕ) (number : ℕ) (text plain : List ℕ)
    (last : Bool) : Type 0 where
  pub opens : opened key (chunk_nonce number last) text ≡ Some plain
  pub some : 0 < length text
  pub full : last ≡ false → length text ≡ 65552
  pub first : length plain ≡ 0 → number ≡ 0
  pub limit : 0 < length plain → number < 2 ^ 44

allowed-by : (xs : List ℕ) (b c : Bool) (x y : Chunk) →
    ◌≡◌ {A = Result Chunk Error} (cond (is_empty xs) (cond b (Err LastChunkEmpty) (Ok x)) (cond c (Ok x) (Err TooLong))) (Ok y) →
    (x ≡ y) × (length xs ≡ 0 → b ≡ false) × (0 < length xs → c ≡ true)
allowed-by [] true c x y is = err-ok is
allowed-by [] false c x y is = (cc, λ _. refl, λ h. absurd (omega arith))
allowed-by (z ∷ zs) b true x y is = (cc, λ h. absurd (omega arith), λ _. refl)
allowed-by (z ∷ zs) b false x y is = err-ok is

allowed_if-by : (number : ℕ) (o : Option Chunk) (y : Chunk) → allowed_if number o ≡ Ok y →
    (o ≡ Some y) × (length y.0 ≡ 0 → number ≡ 0) × (0 < length y.0 → number < 2 ^ 44)
allowed_if-by number None y is = err-ok is
allowed_if-by number (Some x) y is =
    let h = allowed-by x.0 (nat_lt 0 number) (nat_lt number (2 ^ 44)) x y is in
    rw (← h.0) (
      refl,
      (λ none. let e = ltb-false 0 number (h.1 none) in omega arith),
      (λ some. ltb-true number (2 ^ 44) (h.2 some)),
    )

abbrev text_of : Option Chunk → List ℕ
text_of None = []
text_of (Some c) = c.0

abbrev flag_of : Option Chunk → Bool
flag_of None = false
flag_of (Some c) = c.1

opened_as-by : (o : Option (List ℕ)) (flag : Bool) (plain : List ℕ) (last : Bool) → option_map {U = Chunk} (λ p. (p, flag)) o ≡ Some (plain, last)
    → (o ≡ Some plain) × (flag ≡ last)
opened_as-by None flag plain last is = none-some is
opened_as-by (Some p) flag plain last is = (ap (λ o. Some (text_of o)) is, ap flag_of is)

chunk-by : (full : Bool) (middle last_one : Option (List ℕ)) (plain : List ℕ) (last : Bool) →
    cond full (or_else (option_map {U = Chunk} (λ p. (p, false)) middle) (option_map {U = Chunk} (λ p. (p, true)) last_one))
    (option_map {U = Chunk} (λ p. (p, true)) last_one) ≡ Some (plain, last) →
    ((last ≡ false) × (full ≡ true) × (middle ≡ Some plain)) ⊎ ((last ≡ true) × (last_one ≡ Some plain))
chunk-by false middle last_one plain last is = let h = opened_as-by last_one true plain last is in inr (sym h.1, h.0)
chunk-by true None last_one plain last is = let h = opened_as-by last_one true plain last is in inr (sym h.1, h.0)
chunk-by true (Some p) last_one plain last is = let h = opened_as-by (Some p) false plain last is in inl (sym h.1, refl, h.0)

module _ (opened : List ℕ → List ℕ → List ℕ → Option (List ℕ)) (key : List ℕ) where
  pub accepted : (number : ℕ) (text plain : List ℕ) (last : Bool) → chunk_of opened key number text ≡ Ok (plain, last)
      → Accepted opened key number text plain last
  unfolding chunk_of
  accepted number [] plain last is = err-ok is
  accepted number (x ∷ xs) plain last is =
      let text = x ∷ xs in
      let h = allowed_if-by number (opened_chunk opened key number text) (plain, last) is in
      let how = chunk-by (length text == 65552) (opened key (chunk_nonce number false) text)
      (opened key (chunk_nonce number true) text) plain last h.0 in
      record {
        opens = elim how [ inl m ↦ rw m.0 m.2 | inr l ↦ rw l.0 l.1 ];
        some = omega arith;
        full = λ middle. elim how [ inl m ↦ eqb-true (length text) 65552 m.1 | inr l ↦ false-true (sym middle ∙ l.0) ];
        first = h.1;
        limit = h.2;
      }

  verdict-by : (v : Result Chunk Error) (middle last_one : Stretch) → (after_chunk middle last_one v).ends_well ≡ true →
      ((plain : List ℕ) × (v ≡ Ok (plain, false)) × (after_chunk middle last_one v ≡ prepend plain middle))
      ⊎ ((plain : List ℕ) × (v ≡ Ok (plain, true)) × (last_one.ends_well ≡ true) × (after_chunk middle last_one v ≡ prepend plain last_one))
  verdict-by (Err e) middle last_one well = false-true well
  verdict-by (Ok (plain, true)) middle last_one well = inr (plain, refl, well, refl)
  verdict-by (Ok (plain, false)) middle last_one well = inl (plain, refl, refl)

  not-last : (more : List ℕ) (w : Bool) → 0 < length more → (is_empty more && w) ≡ true → ⊥
  not-last [] w some is = absurd (omega arith)
  not-last (x ∷ xs) w some is = false-true is

  -- a chunk that more bytes follow is a middle one
  pub well-middle : (number : ℕ) (s : Stretch) → (payload_delivers opened key number s).ends_well ≡ true → 65552 < length s.bytes →
      (plain : List ℕ) × (chunk_of opened key number (take 65552 s.bytes) ≡ Ok (plain, false))
      × (payload_delivers opened key number s ≡ prepend plain (payload_delivers opened key (suc number) (from_place 65552 s)))
  well-middle number s well long =
      let text = take 65552 s.bytes in
      let more = drop 65552 s.bytes in
      let all : text ++ more ≡ s.bytes = take-append-drop 65552 s.bytes in
      let full : length text ≡ 65552 = omega (arith, length-take 65552 s.bytes) in
      let is = rw all at (delivered-full opened key number text more s.ends_well full) in
      let by = verdict-by (chunk_of opened key number text) (payload_delivers opened key (suc number) (from_place 65552 s))
      (after_last more s.ends_well) (rw is at well) in
      elim by [
        | inl m ↦ (m.0, m.1, is ∙ m.2)
        | inr l ↦ absurd (not-last more s.ends_well (omega (arith, length-drop 65552 s.bytes)) l.2)
      ]

  chunk_of-none : (number : ℕ) → after_chunk nothing (after_last [] true) (chunk_of opened key number []) ≡ nothing
  unfolding chunk_of
  chunk_of-none number = refl

  -- where no byte is left there is no last chunk
  pub delivered-none : (number : ℕ) (w : Bool) → delivers opened key 0 number [] w ≡ nothing
  unfolding delivers
  delivered-none number true = chunk_of-none number
  delivered-none number false = refl

  pub delivered-nothing : (number : ℕ) → payload_delivers opened key number nothing ≡ nothing
  delivered-nothing number = delivered-none number false

  short-by : (w : Bool) (v : Result Chunk Error) → (cond w (after_chunk nothing (after_last [] true) v) nothing).ends_well ≡ true →
      (plain : List ℕ) × (v ≡ Ok (plain, true))
      × (cond w (after_chunk nothing (after_last [] true) v) nothing ≡ record { bytes = plain; ends_well = true }) × (w ≡ true)
  short-by false v well = false-true well
  short-by true (Err e) well = false-true well
  short-by true (Ok (plain, true)) well = (plain, refl, rw append-nil refl, refl)
  short-by true (Ok (plain, false)) well = false-true well

  and-by : (more : List ℕ) (w : Bool) → (is_empty more && w) ≡ true → w ≡ true
  and-by [] w is = is
  and-by (x ∷ xs) w is = false-true is

  -- the only chunk that is left is the last one
  pub well-single : (number : ℕ) (s : Stretch) → (payload_delivers opened key number s).ends_well ≡ true → length s.bytes ≤ 65552 →
      (plain : List ℕ) × (chunk_of opened key number (take 65552 s.bytes) ≡ Ok (plain, true))
      × (payload_delivers opened key number s ≡ record { bytes = plain; ends_well = true }) × (s.ends_well ≡ true)
  well-single number s well few =
      let text : take 65552 s.bytes ≡ s.bytes = take_all 65552 s.bytes few in
      rw text (elim (cases_lt (length s.bytes) 65552) [
        | inl less ↦
            let is = delivered-short opened key number s.bytes s.ends_well less in
            let by = short-by s.ends_well (chunk_of opened key number s.bytes) (rw is at well) in
            (by.0, by.1, is ∙ by.2, by.3)
        | inr full ↦
            let is = rw append-nil at (delivered-full opened key number s.bytes [] s.ends_well (omega arith)) in
            let by = verdict-by (chunk_of opened key number s.bytes) (delivers opened key 0 (suc number) [] s.ends_well)
            (after_last [] s.ends_well) (rw is at well) in
            elim by [
              | inl m ↦ false-true (sym (ap (λ d. d.ends_well) (delivered-none (suc number) s.ends_well)) ∙ sym (ap (λ d. d.ends_well) (is ∙ m.2))
                  ∙ well)
              | inr l ↦ (l.0, l.1, is ∙ l.3 ∙ rw (append-nil, and-by [] s.ends_well l.2) refl, and-by [] s.ends_well l.2)
            ]
      ])

  module _ (law : Shorter opened key) where
    full-plain : (number : ℕ) (text plain : List ℕ) → AreBytes text → length text ≡ 65552 → chunk_of opened key number text ≡ Ok (plain, false)
        → length plain ≡ 65536
    full-plain number text plain bytes full is = omega (arith, law number false text plain bytes (accepted number text plain false is).opens)

    from-prepended : (n : ℕ) (plain : List ℕ) (s : Stretch) → length plain ≡ 65536
        → from_place (65536 * suc n) (prepend plain s) ≡ from_place (65536 * n) s
    from-prepended n plain s full =
        let both : 65536 + 65536 * n ≡ 65536 * suc n = omega arith in
        stretch-ext _ _ (ap (λ k. drop k (plain ++ s.bytes)) (sym both) ∙ sym (drop-drop (65536 * n) 65536 (plain ++ s.bytes))
        ∙ ap (drop (65536 * n)) (drop_at plain s.bytes 65536 full)) refl

    pub further : (n : ℕ) (s : Stretch) → from_place (65552 * n) (from_place 65552 s) ≡ from_place (65552 * suc n) s
    further n s =
        let both : 65552 + 65552 * n ≡ 65552 * suc n = omega arith in
        stretch-ext _ _ (drop-drop (65552 * n) 65552 s.bytes ∙ ap (λ k. drop k s.bytes) both) refl

    -- what stands from a later chunk on is the content from its place on
    pub onward : (n number : ℕ) (s : Stretch) → AreBytes s.bytes → (payload_delivers opened key number s).ends_well ≡ true →
        (0 < n → 65552 * n < length s.bytes) →
        payload_delivers opened key (number + n) (from_place (65552 * n) s) ≡ from_place (65536 * n) (payload_delivers opened key number s)
    onward zero number s bytes well more = rw add-zero refl
    onward (suc n) number s bytes well more =
        let long : 65552 < length s.bytes = omega (arith, more (omega arith)) in
        let m = well-middle number s well long in
        let plain = m.0 in
        let full = full-plain number (take 65552 s.bytes) plain (All-take (λ x. x < 2 ^ 8) 65552 s.bytes bytes)
        (omega (arith, length-take 65552 s.bytes)) m.1 in
        let after = from_place 65552 s in
        let after_well : (payload_delivers opened key (suc number) after).ends_well ≡ true = sym (ap (λ d. d.ends_well) m.2) ∙ well in
        let ih = onward n (suc number) after (All-drop (λ x. x < 2 ^ 8) 65552 s.bytes bytes) after_well
        (λ some. omega (arith, more (omega arith), length-drop 65552 s.bytes)) in
        let count : suc number + n ≡ number + suc n = omega arith in
        ap (λ d. payload_delivers opened key (number + suc n) d) (sym (further n s))
        ∙ ap (λ k. payload_delivers opened key k (from_place (65552 * n) after)) (sym count)
        ∙ ih ∙ sym (ap (from_place (65536 * suc n)) m.2 ∙ from-prepended n plain (payload_delivers opened key (suc number) after) full)

    -- ---- the length

    pub record HasLength (number n len : ℕ) : Type 0 where
      pub less : len + 16 * ((n - 1) / 65552 + 1) ≡ n
      pub enough : 65552 * ((n - 1) / 65552) + 16 ≤ n
      pub more : 0 < number + (n - 1) / 65552 → 65552 * ((n - 1) / 65552) + 16 < n

    single-length : (number : ℕ) (s : Stretch) → AreBytes s.bytes → length s.bytes ≤ 65552 → (payload_delivers opened key number s).ends_well ≡ true →
        HasLength number (length s.bytes) (length (payload_delivers opened key number s).bytes)
    single-length number s bytes few well =
        let one = well-single number s well few in
        let plain = one.0 in
        let a = accepted number (take 65552 s.bytes) plain true one.1 in
        let short = law number true (take 65552 s.bytes) plain (All-take (λ x. x < 2 ^ 8) 65552 s.bytes bytes) a.opens in
        let all = length-take 65552 s.bytes in
        let none : (length s.bytes - 1) / 65552 ≡ 0 = omega arith in
        rw one.2 record {
          less = omega (arith, short, all, none);
          enough = omega (arith, short, all, none);
          more = λ later. elim (cases_lt 0 (length plain)) [
            | inl some ↦ omega (arith, short, all, none)
            | inr
                empty ↦ absurd (omega (arith, a.first (omega arith), none))
          ];
        }

    pub well-length-by : (count number : ℕ) (s : Stretch) → AreBytes s.bytes → length s.bytes ≤ 65552 * count + 65552
        → (payload_delivers opened key number s).ends_well ≡ true →
        HasLength number (length s.bytes) (length (payload_delivers opened key number s).bytes)
    well-length-by zero number s bytes few well = single-length number s bytes (omega arith) well
    well-length-by (suc count) number s bytes few well = elim (cases_lt 65552 (length s.bytes)) [
      | inl long ↦
          let m = well-middle number s well long in
          let plain = m.0 in
          let full = full-plain number (take 65552 s.bytes) plain (All-take (λ x. x < 2 ^ 8) 65552 s.bytes bytes)
          (omega (arith, length-take 65552 s.bytes)) m.1 in
          let after = from_place 65552 s in
          let after_well : (payload_delivers opened key (suc number) after).ends_well ≡ true = sym (ap (λ d. d.ends_well) m.2) ∙ well in
          let left = length-drop 65552 s.bytes in
          let ih = well-length-by count (suc number) after (All-drop (λ x. x < 2 ^ 8) 65552 s.bytes bytes) (omega (arith, left)) after_well in
          let n = length s.bytes in
          let chunks : (n - 1) / 65552 ≡ (length after.bytes - 1) / 65552 + 1 = omega (arith, left) in
          let len : length (payload_delivers opened key number s).bytes ≡ 65536 + length (payload_delivers opened key (suc number) after).bytes =
          ap (λ d. length d.bytes) m.2 ∙ length-append plain (payload_delivers opened key (suc number) after).bytes
          ∙ ap (λ k. k + length (payload_delivers opened key (suc number) after).bytes) full in
          rw len record {
            less = omega (arith, ih.less, chunks, left);
            enough = omega (arith, ih.enough, chunks, left);
            more = λ _. omega (arith, ih.more (omega arith), chunks, left);
          }
      | inr few_now ↦ single-length number s bytes few_now well
    ]

    -- the length of a payload that ends well, and that of its content
    pub well-length : (s : Stretch) → AreBytes s.bytes → (payload_delivers opened key 0 s).ends_well ≡ true →
        HasLength 0 (length s.bytes) (length (payload_delivers opened key 0 s).bytes)
    well-length s bytes well = well-length-by (length s.bytes) 0 s bytes (omega arith) well
