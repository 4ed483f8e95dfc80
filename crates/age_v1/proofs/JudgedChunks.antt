-- What the verdict on a chunk says in the words of the definition.
use Rattle.std.specs.Prelude.{nat_lt, cond, option_map}
use Rattle.std.proofs.Common.{◌≡◌, ℕ, suc, ◌+◌, ◌*◌, ◌<◌, ◌≤◌, ◌^◌, ◌⊎◌, inl, inr, Bool, true, false, List, [], ◌∷◌, length, drop, Option, Some, None, Result, Ok, Err, refl, sym, ap, ◌∙◌, arith}
use Rattle.std.proofs.lemmas.List.{nil_from_length, drop-drop}
use Rattle.std.proofs.lemmas.Bool.{cases_lt, lt-ltb, ltb-true, ltb-false, true≢false}
use Rattle.std.proofs.lemmas.Bool.Decides.{eqb_tells}
use Rattle.age_error.specs.Bytes.{AreBytes, AreBytesOf}
use Rattle.age_error.specs.declared.io.Error.{Error}
use Rattle.age_error.specs.declared.io.Error.TheVariants.{Truncated, BadChunk, AfterLast, LastChunkEmpty, TooLong}
use Rattle.age_io.specs.Stretch.{Stretch, whole, from_place, stretch-ext}
use Rattle.age_suite.specs.Suite.{IsCipher}
use Rattle.age_v1.specs.Payload.{Seal, chunk_nonce, cut, chunk, final_chunk, EndsAsLast, OpensAsMiddle, OpensAsLast}
use Rattle.age_v1.proofs.OpenedTexts.{nonce-bytes}
use Rattle.age_v1.specs.DeliveredPayload.{Chunk, is_empty, allowed, allowed_if, opened_as, chunk_of, text_at}
use Rattle.age_v1.proofs.WellEndedPayloads.{Accepted, accepted}
use Rattle.age_v1.specs.PayloadRefusals.{IsAllowed, StopsAt}
use Rattle.age_v1.proofs.TextLengths.{full-within, some-within, none-past, is-none, is-full, is-sealed}
use Rattle.age_v1.proofs.FrontToEnd.{chunk-bytes, not_middle, held_middle, held_last, is_bad, middle_plain-size}

-- a reader's text of a chunk is the definition's
pub text_chunk : (number : ℕ) (payload : Stretch) → text_at number payload ≡ chunk number payload.bytes
unfolding cut
text_chunk number payload = refl

-- what stands after a chunk
pub next_place : (number : ℕ) (payload : Stretch) → from_place 65552 (from_place (65552 * number) payload) ≡ from_place (65552 * suc number) payload
next_place number payload =
    let next : 65552 * number + 65552 ≡ 65552 * suc number = omega arith in
    stretch-ext _ _ (drop-drop 65552 (65552 * number) payload.bytes ∙ ap (λ n. drop n payload.bytes) next) refl

-- a text with a byte isn't empty
some_byte : (text : List ℕ) → 0 < length text → is_empty text ≡ false
some_byte [] some = absurd (omega arith)
some_byte (x ∷ xs) some = refl

-- the terms alone: `cc` beside a text computes it
err-same : (a b : Error) → ◌≡◌ {A = Result Chunk Error} (Err a) (Err b) → a ≡ b
err-same a b is = cc

some-same : (a b : List ℕ) → ◌≡◌ {A = Option (List ℕ)} (Some a) (Some b) → a ≡ b
some-same a b is = cc

none-apart : (a : List ℕ) → ◌≡◌ {A = Option (List ℕ)} None (Some a) → ⊥
none-apart a is = cc

-- ---- a chunk by itself

allowed_by : (xs : List ℕ) (empty near : Bool) (x : Chunk) (e : Error) →
    ◌≡◌ {A = Result Chunk Error} (cond (is_empty xs) (cond empty (Err LastChunkEmpty) (Ok x)) (cond near (Ok x) (Err TooLong))) (Err e) →
    ((e ≡ LastChunkEmpty) × (xs ≡ []) × (empty ≡ true)) ⊎ ((e ≡ TooLong) × (0 < length xs) × (near ≡ false))
allowed_by [] true near x e is = inl (cc, refl, refl)
allowed_by [] false near x e is = cc
allowed_by (z ∷ zs) empty true x e is = cc
allowed_by (z ∷ zs) empty false x e is = inr (cc, omega arith, refl)

-- why a chunk is refused by itself
allowed-refused : (number : ℕ) (plain : List ℕ) (last : Bool) (e : Error) → allowed number (plain, last) ≡ Err e →
    ((e ≡ LastChunkEmpty) × (plain ≡ []) × (0 < number)) ⊎ ((e ≡ TooLong) × (0 < length plain) × (2 ^ 44 ≤ number))
allowed-refused number plain last e is = elim (allowed_by plain (nat_lt 0 number) (nat_lt number (2 ^ 44)) (plain, last) e is) [
  | inl empty ↦ inl (empty.0, empty.1, ltb-true 0 number empty.2)
  | inr far ↦ inr (far.0, far.1, ltb-false number (2 ^ 44) far.2)
]

-- whether it is accepted as the last
abbrev flag_of : Result Chunk Error → Bool
flag_of (Ok found) = found.1
flag_of (Err e) = false

-- a middle chunk isn't accepted as the last
middle-no_last : (xs : List ℕ) (empty near : Bool) (p q : List ℕ) →
    ◌≡◌ {A = Result Chunk Error} (cond (is_empty xs) (cond empty (Err LastChunkEmpty) (Ok (p, false))) (cond near (Ok (p, false)) (Err TooLong)))
    (Ok (q, true)) → ⊥
middle-no_last [] true near p q is = true≢false (sym (ap flag_of is))
middle-no_last [] false near p q is = true≢false (sym (ap flag_of is))
middle-no_last (z ∷ zs) empty true p q is = true≢false (sym (ap flag_of is))
middle-no_last (z ∷ zs) empty false p q is = true≢false (sym (ap flag_of is))

-- a chunk that isn't refused by itself
allowed-ok : (number : ℕ) (plain : List ℕ) (last : Bool) → IsAllowed number plain → allowed number (plain, last) ≡ Ok (plain, last)
allowed-ok number [] last allowed_so = elim (cases_lt 0 number) [
  | inl some ↦ absurd (omega (arith, allowed_so.some some))
  | inr zero ↦ let first : number ≡ 0 = omega arith in rw first refl
]
allowed-ok number (x ∷ xs) last allowed_so = rw (lt-ltb number (2 ^ 44) (allowed_so.limit (omega arith))) refl

module _ (opened : List ℕ → List ℕ → List ℕ → Option (List ℕ)) (key : List ℕ) where
  -- what is accepted isn't refused by itself
  pub allowed-accepted : (number : ℕ) (text plain : List ℕ) (last : Bool) → Accepted opened key number text plain last → IsAllowed number plain
  allowed-accepted number text plain last a = record {
    some = λ later. elim (cases_lt 0 (length plain)) [ inl some ↦ some | inr none ↦ absurd (omega (arith, a.first (omega arith))) ];
    limit = a.limit;
  }

  -- A text with a byte is judged by the middle chunk that it opens to, if it is full and does,
  abbrev ByMiddle : ℕ → List ℕ → Type 0
  ByMiddle number text = (plain : List ℕ) × (length text ≡ 65552) × (opened key (chunk_nonce number false) text ≡ Some plain)
      × (chunk_of opened key number text ≡ allowed number (plain, false))

  -- else by what it opens to as the last.
  abbrev ByLast : ℕ → List ℕ → Type 0
  ByLast number text = (length text ≡ 65552 → opened key (chunk_nonce number false) text ≡ None)
      × (chunk_of opened key number text ≡ allowed_if number (opened_as opened key number true text))

  judged-with : (number : ℕ) (text : List ℕ) → 0 < length text → (middle : Option (List ℕ)) → opened key (chunk_nonce number false) text ≡ middle →
      ByMiddle number text ⊎ ByLast number text
  unfolding chunk_of
  judged-with number text some None is = inr (
    λ _. is,
    elim (eqb_tells (length text) 65552) [
      | inl full ↦ rw (some_byte text some, full.0, is) refl
      | inr short ↦ rw (some_byte text some, short.0) refl
    ],
  )
  judged-with number text some (Some plain) is = elim (eqb_tells (length text) 65552) [
    | inl full ↦ inl (plain, full.1, is, rw (some_byte text some, full.0, is) refl)
    | inr short ↦ inr (λ full. absurd (short.1 full), rw (some_byte text some, short.0) refl)
  ]

  pub judged_by : (number : ℕ) (text : List ℕ) → 0 < length text → ByMiddle number text ⊎ ByLast number text
  judged_by number text some = judged-with number text some (opened key (chunk_nonce number false) text) refl

  -- a short chunk that opens as the last, and isn't refused by itself, is accepted
  pub judged-short : (number : ℕ) (text plain : List ℕ) → length text < 65552 → 0 < length text → (0 < number → 0 < length plain) → number < 2 ^ 44 →
      opened key (chunk_nonce number true) text ≡ Some plain → chunk_of opened key number text ≡ Ok (plain, true)
  judged-short number text plain less some byte few is = elim (judged_by number text some) [
    | inl middle ↦ absurd (omega (arith, less, middle.1))
    | inr by ↦ by.1 ∙ rw is (allowed-ok number plain true (record { some = byte; limit = λ _. few }))
  ]

  chunk_of-none : (number : ℕ) → chunk_of opened key number [] ≡ Err Truncated
  unfolding chunk_of
  chunk_of-none number = refl

module _ (seal_of : Seal) (opened : List ℕ → List ℕ → List ℕ → Option (List ℕ)) (law : IsCipher seal_of opened) (key : List ℕ)
    (k : AreBytesOf 32 key) (sealed : List ℕ) (b : AreBytes sealed) where
  -- the text of a chunk, as a reader takes it
  abbrev text_of : ℕ → List ℕ
  text_of number = text_at number (whole sealed)

  -- what a reader's text opens to, the chunk does
  pub opens_chunk : (number : ℕ) (last : Bool) (o : Option (List ℕ)) → opened key (chunk_nonce number last) (text_of number) ≡ o →
      opened key (chunk_nonce number last) (chunk number sealed) ≡ o
  opens_chunk number last o is = sym (ap (opened key (chunk_nonce number last)) (text_chunk number (whole sealed))) ∙ is

  -- what opens as a middle chunk is held as one
  middle-held : (number : ℕ) (plain : List ℕ) → length (text_of number) ≡ 65552
      → opened key (chunk_nonce number false) (text_of number) ≡ Some plain →
      OpensAsMiddle seal_of key sealed number plain
  middle-held number plain full is = held_middle seal_of opened law key k sealed b number plain
      (full-within 65552 (65552 * number) sealed (omega arith) full) (opens_chunk number false (Some plain) is)

  -- what is short, or doesn't open as a middle chunk, isn't held as one
  middle-none : (number : ℕ) → 0 < length (text_of number)
      → (length (text_of number) ≡ 65552 → opened key (chunk_nonce number false) (text_of number) ≡ None) →
      (other : List ℕ) → OpensAsMiddle seal_of key sealed number other → ⊥
  middle-none number some none other held =
      let full : length (text_of number) ≡ 65552 = ap length (text_chunk number (whole sealed)) ∙ held.full in
      not_middle seal_of opened law key k sealed b number (opens_chunk number false None (none full)) other held

  -- a middle chunk is accepted
  pub judged-middle : (number : ℕ) (plain : List ℕ) → chunk_of opened key number (text_of number) ≡ Ok (plain, false) →
      OpensAsMiddle seal_of key sealed number plain
  judged-middle number plain is =
      let a = accepted opened key number (text_of number) plain false is in
      middle-held number plain (a.full refl) a.opens

  -- the last chunk is accepted
  pub judged-last : (number : ℕ) (plain : List ℕ) → chunk_of opened key number (text_of number) ≡ Ok (plain, true) →
      OpensAsLast seal_of key sealed number plain
  judged-last number plain is =
      let a = accepted opened key number (text_of number) plain true is in
      elim (judged_by opened key number (text_of number) a.some) [
        | inl middle ↦ absurd (middle-no_last middle.0 (nat_lt 0 number) (nat_lt number (2 ^ 44)) middle.0 plain (sym middle.3 ∙ is))
        | inr by ↦ held_last seal_of opened law key k sealed b number plain (middle-none number a.some by.0)
            (opens_chunk number true (Some plain) a.opens)
      ]

  -- why what is held as middle is refused, and what isn't
  refused-middle : (number : ℕ) (plain : List ℕ) (e : Error) → OpensAsMiddle seal_of key sealed number plain → allowed number (plain, false) ≡ Err e →
      StopsAt seal_of key sealed number e
  refused-middle number plain e held is =
      let size = middle_plain-size seal_of opened law key k sealed b number plain held in
      elim (allowed-refused number plain false e is) [
        | inl empty ↦ absurd (omega (arith, size, ap length empty.1))
        | inr far ↦ rw far.0 (far.2, (plain, far.1, inl held))
      ]

  refused-last : (number : ℕ) (o : Option (List ℕ)) (e : Error) → 65552 * number < length sealed
      → opened key (chunk_nonce number true) (chunk number sealed) ≡ o →
      ((other : List ℕ) → OpensAsMiddle seal_of key sealed number other → ⊥) →
      allowed_if number (option_map {U = Chunk} (λ p. (p, true)) o) ≡ Err e → StopsAt seal_of key sealed number e
  refused-last number None e there opens apart is =
      let bad : e ≡ BadChunk = cc in
      rw bad (there, is_bad seal_of opened law key k sealed b number apart opens)
  refused-last number (Some plain) e there opens apart is =
      let held = held_last seal_of opened law key k sealed b number plain apart opens in
      elim (allowed-refused number plain true e is) [
        | inl empty ↦ rw empty.0 (empty.2, rw (← empty.1) held)
        | inr far ↦ rw far.0 (far.2, (plain, far.1, inr held))
      ]

  -- a chunk is refused
  pub judged-refused : (number : ℕ) (e : Error) → 65552 * number ≤ length sealed → chunk_of opened key number (text_of number) ≡ Err e →
      StopsAt seal_of key sealed number e
  judged-refused number e within is = elim (cases_lt 0 (length (text_of number))) [
    | inl some ↦ elim (judged_by opened key number (text_of number) some) [
      | inl middle ↦ refused-middle number middle.0 e (middle-held number middle.0 middle.1 middle.2) (sym middle.3 ∙ is)
      | inr by ↦
          refused-last number (opened key (chunk_nonce number true) (text_of number)) e (some-within 65552 (65552 * number) sealed some)
          (opens_chunk number true _ refl) (middle-none number some by.0) (sym by.1 ∙ is)
    ]
    | inr none ↦
        let empty : text_of number ≡ [] = nil_from_length (text_of number) (is-none (length (text_of number)) none) in
        let at_end = err-same e Truncated (sym is ∙ ap (chunk_of opened key number) empty ∙ chunk_of-none opened key number) in
        rw at_end (none-past 65552 (65552 * number) sealed (omega arith) none within)
  ]

  -- bytes follow a chunk that is accepted as the last
  pub judged-after_last : (number : ℕ) (plain : List ℕ) → chunk_of opened key number (text_of number) ≡ Ok (plain, true) →
      65552 * (number + 1) < length sealed → StopsAt seal_of key sealed number AfterLast
  judged-after_last number plain is more = (
    more,
    (
      plain,
      allowed-accepted opened key number (text_of number) plain true
          (accepted opened key number (text_of number) plain true is),
      judged-last number plain is,
    ),
  )

  -- ---- the other way

  -- what is held opens
  opens_held : (number : ℕ) (last : Bool) (plain : List ℕ) → AreBytes plain → chunk number sealed ≡ seal_of key (chunk_nonce number last) plain →
      opened key (chunk_nonce number last) (text_of number) ≡ Some plain
  opens_held number last plain p is = ap (opened key (chunk_nonce number last)) (text_chunk number (whole sealed))
      ∙ (law.opens_exactly key (chunk_nonce number last) (chunk number sealed) plain k (nonce-bytes number last) (chunk-bytes number sealed b)).1
      (p, is)

  -- a chunk that is held as middle, and not refused by itself, is accepted so
  pub held-judged_middle : (number : ℕ) (plain : List ℕ) → OpensAsMiddle seal_of key sealed number plain → IsAllowed number plain →
      chunk_of opened key number (text_of number) ≡ Ok (plain, false)
  held-judged_middle number plain held allowed_so =
      let same_length = ap length (text_chunk number (whole sealed)) in
      let full : length (text_of number) ≡ 65552 = same_length ∙ held.full in
      let opens = opens_held number false plain held.bytes held.is_seal in
      elim (judged_by opened key number (text_of number) (is-full (length (text_of number)) (length (chunk number sealed)) same_length held.full)) [
        | inl middle ↦
            let same = some-same middle.0 plain (sym middle.2 ∙ opens) in
            middle.3 ∙ ap (λ (p : List ℕ). allowed number (p, false)) same ∙ allowed-ok number plain false allowed_so
        | inr by ↦ absurd (none-apart plain (sym (by.0 full) ∙ opens))
      ]

  -- a chunk that is held as last, and not refused by itself, is accepted so
  pub held-judged_last : (number : ℕ) (plain : List ℕ) → OpensAsLast seal_of key sealed number plain → IsAllowed number plain →
      chunk_of opened key number (text_of number) ≡ Ok (plain, true)
  held-judged_last number plain held allowed_so =
      let opens = opens_held number true plain held.bytes held.is_seal in
      let size = (law.seal_is_longer key (chunk_nonce number true) plain k (nonce-bytes number true) held.bytes).len in
      let some : 0 < length (text_of number) =
      is-sealed (length (text_of number)) (length (chunk number sealed)) (length (seal_of key (chunk_nonce number true) plain)) (length plain)
      (ap length (text_chunk number (whole sealed))) (ap length held.is_seal) size in
      elim (judged_by opened key number (text_of number) some) [
        | inl middle ↦ absurd (held.not_middle middle.0 (middle-held number middle.0 middle.1 middle.2))
        | inr by ↦ by.1 ∙ ap (λ (o : Option (List ℕ)). allowed_if number (option_map {U = Chunk} (λ p. (p, true)) o)) opens
            ∙ allowed-ok number plain true allowed_so
      ]

  -- what opens as the last at the end is the last chunk
  pub ends_last : (number : ℕ) (plain : List ℕ) → number ≡ final_chunk (length sealed)
      → opened key (chunk_nonce number true) (text_of number) ≡ Some plain → EndsAsLast seal_of key sealed
  ends_last number plain is opens =
      let both = (law.opens_exactly key (chunk_nonce number true) (chunk number sealed) plain k (nonce-bytes number true)
      (chunk-bytes number sealed b)).0 (opens_chunk number true (Some plain) opens) in
      record { plain = plain; bytes = both.0; is_seal = rw (← is) both.1 }

  -- what doesn't open as the last at the end isn't the seal of any bytes as the last
  pub ends_badly : opened key (chunk_nonce (final_chunk (length sealed)) true) (text_of (final_chunk (length sealed))) ≡ None
      → EndsAsLast seal_of key sealed → ⊥
  ends_badly none ends = none-apart ends.plain (sym none ∙ opens_held (final_chunk (length sealed)) true ends.plain ends.bytes ends.is_seal)
