-- Reads in turn whose room ends in the chunk in which it begins.
use Rattle.std.specs.Prelude.{◌≡◌, ℕ, ◌+◌, ◌*◌, ◌/◌, ◌<◌, ◌≤◌, ◌⊎◌, ◌++◌, Bool, true, false, Option, Some, List, length, drop, Result, Ok, Err}
use Rattle.std.proofs.Common.{arith, ap, ◌∙◌, refl, sym, inl, inr, length-append, length-drop}
use Rattle.std.proofs.lemmas.Bool.{cases_lt}
use Rattle.age_error.specs.declared.io.Error.{Error}
use Rattle.age_error.specs.declared.io.SeekFrom.{SeekFrom}
use Rattle.age_v1.specs.Payload.{plain_len}
use Rattle.age_stream.specs.Access.{IsInChunk}
use Rattle.age_suite.specs.declared.suite.Suite.{Ghosts as SuiteGhosts}
use Rattle.age_io.specs.declared.traits.Read.{Ghosts}
use Rattle.age_io.specs.Stretch.{Stretch, IsCleanEnd}
use Rattle.age_stream.specs.declared.cache.Cache.{Cache}
use Rattle.age_stream.specs.declared.place.Place.{Place}
use Rattle.age_stream.specs.declared.reader.StreamReader.{StreamReader}
use Rattle.age_stream.specs.Cache.{last_used, HasOne}
use Rattle.age_stream.specs.Reader.{place_of, plain_rest_of, IsHolding, IsAfterLast}
use Rattle.age_stream.specs.Reading.{behind, rest_of}
use Rattle.age_stream.specs.PrivateSteps.{FullInOne, OpensFew, ReadsChunks}
use Rattle.age_stream.proofs.Holding.{rest-held}

-- a reader that has a byte of a chunk to give isn't at an end
some-left : (opened : List ℕ → List ℕ → List ℕ → Option (List ℕ)) (key : List ℕ) (place : Place) (cache : Cache) (rest : Stretch) →
    place.failed ≡ false → place.held ≡ true → place.at < length cache.first.piece.items → IsCleanEnd (rest_of opened key place cache rest) → ⊥
some-left opened key place cache rest good is within clean =
    let after = behind opened key cache.first.last place.number rest in
    let none : length (drop place.at cache.first.piece.items ++ after.bytes) ≡ 0 =
    ap (λ s. length s.bytes) (sym (rest-held opened key place cache rest good is)) ∙ ap length clean.bytes in
    omega (arith, within, none, length-append (drop place.at cache.first.piece.items) after.bytes, length-drop place.at cache.first.piece.items)

either : (b : Bool) → (b ≡ true) ⊎ (b ≡ false)
either true = inl refl
either false = inr refl

-- bytes came, since the place is before the end
pub in-chunk-some : (size : ℕ) (to : SeekFrom) (place room chunk filled new : ℕ) → (inside : IsInChunk size to place room chunk)
    → new ≡ inside.start + filled →
    (filled < room → plain_len size ≡ Some new) → 0 < filled
in-chunk-some size to place room chunk filled new inside there ended = elim (cases_lt 0 filled) [
  | inl some ↦ some
  | inr none ↦
      let less : filled < room = omega (arith, none, inside.some) in
      let same : new ≡ inside.start = omega (arith, there, none) in
      absurd (inside.before (record { len = inside.start; plain = ended less ∙ ap (λ n. Some n) same; target = inside.leads }))
]

abbrev number_of : Result ℕ Error → ℕ
number_of (Ok n) = n
number_of (Err e) = 0

pub same-start : (result : Result ℕ Error) (a b : ℕ) → result ≡ Ok a → result ≡ Ok b → a ≡ b
same-start result a b is other = ap number_of (sym is ∙ other)

module _ {S R : Type 0} {suite : SuiteGhosts S} {read : Ghosts R} where
  -- so many bytes came, all of this chunk
  pub record InOne (old now : StreamReader S R suite read) (chunk filled : ℕ) : Type 0 where
    pub uses : 0 < filled → last_used now.cache ≡ Some chunk
    pub held : 0 < filled → now.place.held ≡ true
    pub keeps_last : (b : ℕ) → last_used old.cache ≡ Some b → HasOne now.cache b
    pub keeps : IsHolding old → (b : ℕ) → HasOne old.cache b → HasOne now.cache b
    pub opens : now.opens ≤ old.opens + 2
    pub none : IsHolding old → now.opens ≡ old.opens
    pub last_first : filled ≡ 0 → last_used now.cache ≡ last_used old.cache
    pub here_first : filled ≡ 0 → IsHolding old → IsHolding now
    pub opens_first : filled ≡ 0 → now.opens ≡ old.opens

  -- it stands in the chunk that it holds, or behind the last one
  stands-in : (r : StreamReader S R suite read) (chunk : ℕ) → r.place.held ≡ true → 65536 * chunk < place_of r → place_of r < 65536 * chunk + 65536 →
      ((r.place.held ≡ true) × (r.place.at < length r.cache.first.piece.items)) ⊎ IsAfterLast r
  stands-in r chunk held from to =
      let at = r.chunk held in
      elim (cases_lt r.place.at (length r.cache.first.piece.items)) [
        | inl less ↦ inl (held, less)
        | inr more ↦
            let given : r.place.at ≡ length r.cache.first.piece.items = omega (arith, at.in_chunk, more) in
            elim (either r.cache.first.last) [
              | inl last ↦ inr (held, last, given)
              | inr middle ↦ absurd (omega (arith, given, at.full middle, from, to))
            ]
      ]

  module _ (old mid new : StreamReader S R suite read) (chunk filled room : ℕ) (from : 65536 * chunk ≤ place_of old)
      (within : place_of old + room ≤ 65536 * chunk + 65536)
      (less : filled < room) (placed : place_of mid ≡ place_of old + filled) (good : mid.place.failed ≡ false) (one : InOne old mid chunk filled)
    where
      stands-then : 0 < filled → ((mid.place.held ≡ true) × (mid.place.at < length mid.cache.first.piece.items)) ⊎ IsAfterLast mid
      stands-then some = stands-in mid chunk (one.held some) (omega (arith, from, placed, some)) (omega (arith, within, placed, less))

      here-then : 0 < filled → IsHolding mid ⊎ IsAfterLast mid
      here-then some = elim (stands-then some) [ inl is ↦ inl (good, inl is) | inr is ↦ inr is ]

      pub in-one-opens : (result : Result ℕ Error) → OpensFew mid new result → ReadsChunks mid new result
          → (new.opens ≤ old.opens + 2) × (IsHolding old → new.opens ≡ old.opens)
      in-one-opens result few chunks = elim (cases_lt 0 filled) [
        | inl some ↦
            let same : new.opens ≡ mid.opens = elim (here-then some) [ inl is ↦ few.none is | inr is ↦ chunks.at_end is ] in
            (omega (arith, same, one.opens), λ here. same ∙ one.none here)
        | inr zero ↦
            let first : filled ≡ 0 = omega (arith, zero) in
            (omega (arith, few.most, one.opens_first first), λ here. few.none (one.here_first first here) ∙ one.none here)
      ]

      module _ (n : ℕ) (few : OpensFew mid new (Ok n)) (chunks : ReadsChunks mid new (Ok n)) where
        keeps-last-then : (b : ℕ) → last_used old.cache ≡ Some b → HasOne new.cache b
        keeps-last-then b is = elim (cases_lt 0 filled) [
          | inl some ↦ chunks.has (here-then some) b (one.keeps_last b is)
          | inr zero ↦ chunks.keeps_last b (one.last_first (omega (arith, zero)) ∙ is)
        ]

        keeps-then : IsHolding old → (b : ℕ) → HasOne old.cache b → HasOne new.cache b
        keeps-then here b is = elim (cases_lt 0 filled) [
          | inl some ↦ chunks.has (here-then some) b (one.keeps here b is)
          | inr zero ↦ chunks.has (inl (one.here_first (omega (arith, zero)) here)) b (one.keeps here b is)
        ]

        -- a further read gave bytes
        pub in-one-more : 0 < n → InOne old new chunk (filled + n)
        in-one-more some =
            let number : place_of mid / 65536 ≡ chunk = omega (arith, from, within, placed, less) in
            let opens = in-one-opens (Ok n) few chunks in
            record {
              uses = λ _. chunks.uses some ∙ ap (λ k. Some k) number;
              held = λ _. chunks.held;
              keeps_last = keeps-last-then;
              keeps = keeps-then;
              opens = opens.0;
              none = opens.1;
              last_first = λ none. absurd (omega (arith, none, some));
              here_first = λ none. absurd (omega (arith, none, some));
              opens_first = λ none. absurd (omega (arith, none, some));
            }

        -- the end was found
        pub in-one-end : {T : Type 0} {x : T} → IsCleanEnd (plain_rest_of mid) → FullInOne old new chunk filled (Ok x)
        in-one-end clean =
            let opens = in-one-opens (Ok n) few chunks in
            record {
              opens = opens.0;
              none = opens.1;
              uses = λ some. elim (stands-then some) [
                | inl is ↦ absurd (some-left suite.opened mid.key mid.place mid.cache (read.rest mid.source.inner) good is.0 is.1 clean)
                | inr is ↦ chunks.same_last is ∙ one.uses some
              ];
              keeps_last = keeps-last-then;
              keeps = keeps-then;
            }

  pub in-one-full : {T : Type 0} {x : T} (old now : StreamReader S R suite read) (chunk filled : ℕ) → InOne old now chunk filled
      → FullInOne old now chunk filled (Ok x)
  in-one-full old now chunk filled one = record {
    opens = one.opens;
    none = one.none;
    uses = one.uses;
    keeps_last = one.keeps_last;
    keeps = one.keeps;
  }
