-- What one more opened chunk shows.
use Rattle.std.proofs.Common.{◌≡◌, ℕ, zero, suc, ◌+◌, ◌*◌, ◌<◌, ◌≤◌, ◌^◌, Bool, true, false, List, [], ◌++◌, length, drop, Option, Some, None, refl, sym, ◌∙◌, ap, subst, arith, add-one, inl, inr}
use Rattle.std.proofs.lemmas.List.{length-append, nil_from_length, take-append-drop}
use Rattle.std.proofs.lemmas.List.Elements.{All-append, All-nil}
use Rattle.std.proofs.lemmas.Bool.{cases_lt}
use Rattle.std.specs.Prelude.{Result, Ok, Err, IsErr, IsErrAnd, IfErr}
use Rattle.age_error.specs.declared.io.Error.{Error}
use Rattle.age_error.specs.declared.io.Error.TheVariants.{OutOfMemory}
use Rattle.age_error.specs.Bytes.{AreBytes, AreBytesOf}
use Rattle.age_suite.specs.Suite.{IsCipher}
use Rattle.age_v1.proofs.OpenedTexts.{nonce-bytes}
use Rattle.age_v1.specs.Payload.{Seal, piece, last_piece, chunk_nonce, middle_seals, payload, chunk, OpensAsMiddle, OpensAsLast, IsBadChunk}
use Rattle.age_v1.specs.PayloadRefusals.{IsAllowed, StopsAt, IsOpenedTo, RefusesFrontToEnd}
use Rattle.age_v1.proofs.Payloads.{piece-bytes, length-seal, middle_seals-front, chunk-middle}
use Rattle.age_v1.proofs.Cuts.{cut-bytes, length-cut, cut_more, cut_end, cut_rest}

-- a chunk of bytes is bytes
pub chunk-bytes : (i : ℕ) (sealed : List ℕ) → AreBytes sealed → AreBytes (chunk i sealed)
chunk-bytes i sealed b = cut-bytes 65552 i sealed b

-- the last piece is that after i full ones, if it isn't empty or is the first
last_piece_is : (i n : ℕ) → n ≤ 65536 → (0 < i → 0 < n) → last_piece (65536 * i + n) ≡ i
last_piece_is zero n h more = omega arith
last_piece_is (suc i) n h more = let some = more (omega arith) in omega (arith, some)

module _ (seal_of : Seal) (opened : List ℕ → List ℕ → List ℕ → Option (List ℕ)) (law : IsCipher seal_of opened) (key : List ℕ)
    (k : AreBytesOf 32 key) (sealed : List ℕ) (b : AreBytes sealed) where
  -- what a chunk opened to
  pub opens_to : (i : ℕ) (is_last : Bool) (plain : List ℕ) → opened key (chunk_nonce i is_last) (chunk i sealed) ≡ Some plain
      → AreBytes plain × (chunk i sealed ≡ seal_of key (chunk_nonce i is_last) plain)
  opens_to i is_last plain e =
      (law.opens_exactly key (chunk_nonce i is_last) (chunk i sealed) plain k (nonce-bytes i is_last) (chunk-bytes i sealed b)).0 e

  -- a chunk that doesn't open is no seal
  pub no_seal : (i : ℕ) (is_last : Bool) → opened key (chunk_nonce i is_last) (chunk i sealed) ≡ None
      → (plain : List ℕ) → AreBytes plain → chunk i sealed ≡ seal_of key (chunk_nonce i is_last) plain → ⊥
  no_seal i is_last none plain p e =
      let some = (law.opens_exactly key (chunk_nonce i is_last) (chunk i sealed) plain k (nonce-bytes i is_last) (chunk-bytes i sealed b)).1 (p, e) in
      cc (none, some)

  -- a chunk that doesn't open as middle isn't held as one
  pub not_middle : (i : ℕ) → opened key (chunk_nonce i false) (chunk i sealed) ≡ None
      → (plain : List ℕ) → OpensAsMiddle seal_of key sealed i plain → ⊥
  not_middle i none plain held = no_seal i false none plain held.bytes held.is_seal

  -- a chunk that isn't full isn't held as middle
  pub short_not_middle : (i : ℕ) → length sealed < 65552 * i + 65552
      → (plain : List ℕ) → OpensAsMiddle seal_of key sealed i plain → ⊥
  short_not_middle i short plain held = absurd (omega (arith, held.full, length-cut 65552 i sealed))

  -- a chunk that opens is held so
  pub held_last : (i : ℕ) (plain : List ℕ) → ((other : List ℕ) → OpensAsMiddle seal_of key sealed i other → ⊥)
      → opened key (chunk_nonce i true) (chunk i sealed) ≡ Some plain → OpensAsLast seal_of key sealed i plain
  held_last i plain no_middle some = record {
    not_middle = no_middle;
    bytes = (opens_to i true plain some).0;
    is_seal = (opens_to i true plain some).1;
  }

  pub held_middle : (i : ℕ) (plain : List ℕ) → 65552 * i + 65552 ≤ length sealed
      → opened key (chunk_nonce i false) (chunk i sealed) ≡ Some plain → OpensAsMiddle seal_of key sealed i plain
  held_middle i plain full some = record {
    full = omega (arith, length-cut 65552 i sealed);
    bytes = (opens_to i false plain some).0;
    is_seal = (opens_to i false plain some).1;
  }

  pub is_bad : (i : ℕ) → ((other : List ℕ) → OpensAsMiddle seal_of key sealed i other → ⊥)
      → opened key (chunk_nonce i true) (chunk i sealed) ≡ None → IsBadChunk seal_of key sealed i
  is_bad i no_middle none = record { not_middle = no_middle; not_last = λ plain held. no_seal i true none plain held.bytes held.is_seal }

  -- a middle chunk has 65,536 bytes of plaintext, the last one no more
  pub middle_plain-size : (i : ℕ) (plain : List ℕ) → OpensAsMiddle seal_of key sealed i plain → length plain ≡ 65536
  middle_plain-size i plain held = omega (arith, ap length held.is_seal, held.full, length-seal seal_of opened law key k i false plain held.bytes)

  pub last_plain-size : (i : ℕ) (plain : List ℕ) → OpensAsLast seal_of key sealed i plain → length plain ≤ 65536
  last_plain-size i plain held =
      omega (arith, ap length held.is_seal, length-cut 65552 i sealed, length-seal seal_of opened law key k i true plain held.bytes)

  -- nothing is opened yet
  pub opened_none : IsOpenedTo seal_of key sealed 0 []
  opened_none = record { len = refl; bytes = All-nil (λ x. x < 2 ^ 8); within = omega arith; front = refl }

  -- one more chunk is opened as middle
  pub opened_more : (i : ℕ) (out plain : List ℕ) → IsOpenedTo seal_of key sealed i out → 65552 * i + 65552 ≤ length sealed
      → opened key (chunk_nonce i false) (chunk i sealed) ≡ Some plain → IsOpenedTo seal_of key sealed (i + 1) (out ++ plain)
  opened_more i out plain was full some =
      let p = (opens_to i false plain some).0 in
      let is_seal = (opens_to i false plain some).1 in
      let size : length plain ≡ 65536 =
      omega (arith, ap length is_seal, length-cut 65552 i sealed, length-seal seal_of opened law key k i false plain p) in
      let before = middle_seals-front seal_of opened law key k i out plain (omega (arith, was.len)) in
      let here : piece i (out ++ plain) ≡ plain =
      cut_end 65536 i out plain was.len (omega arith) in
      record {
        len = rw length-append (omega (arith, was.len));
        bytes = All-append (λ x. x < 2 ^ 8) out plain was.bytes p;
        within = omega arith;
        front = rw (add-one, cut_more 65552 i sealed, was.front, is_seal, before, here) refl;
      }

  -- the chunks that are opened are held as middle
  pub held_before : (n : ℕ) (out : List ℕ) → IsOpenedTo seal_of key sealed n out
      → (i : ℕ) → i < n → (plain : List ℕ) × OpensAsMiddle seal_of key sealed i plain
  held_before n out was i l =
      let rest = drop (65552 * n) sealed in
      let whole : sealed ≡ middle_seals seal_of key out n ++ rest = rw (← was.front) (sym (take-append-drop (65552 * n) sealed)) in
      let is : chunk i sealed ≡ seal_of key (chunk_nonce i false) (piece i out) =
      ap (chunk i) whole ∙ chunk-middle seal_of opened law key k n i out rest was.bytes (omega (arith, was.len)) l in (
        piece i out,
        record {
          full = omega (arith, length-cut 65552 i sealed, was.within);
          bytes = piece-bytes i out was.bytes;
          is_seal = is;
        },
      )

  -- the last chunk is opened
  pub opened_whole : (i : ℕ) (out plain : List ℕ) → IsOpenedTo seal_of key sealed i out → length sealed ≤ 65552 * i + 65552
      → IsAllowed i plain → OpensAsLast seal_of key sealed i plain → sealed ≡ payload seal_of key (out ++ plain)
  unfolding payload
  opened_whole i out plain was short allowed held =
      let size = last_plain-size i plain held in
      let is_last : last_piece (length (out ++ plain)) ≡ i = rw (length-append, was.len) (last_piece_is i (length plain) size allowed.some) in
      let before = middle_seals-front seal_of opened law key k i out plain (omega (arith, was.len)) in
      let here : piece i (out ++ plain) ≡ plain =
      cut_end 65536 i out plain was.len size in
      let rest : chunk i sealed ≡ drop (65552 * i) sealed =
      cut_rest 65552 i sealed short in
      rw (is_last, before, here, ← was.front, ← held.is_seal, rest) (sym (take-append-drop (65552 * i) sealed))

  -- and what was opened has at most 2 ^ 60 bytes
  pub opened_limit : (i : ℕ) (out plain : List ℕ) → IsOpenedTo seal_of key sealed i out → i ≤ 2 ^ 44
      → IsAllowed i plain → OpensAsLast seal_of key sealed i plain → length (out ++ plain) ≤ 2 ^ 60
  opened_limit i out plain was reach allowed held =
      let size = last_plain-size i plain held in
      rw length-append (elim (cases_lt 0 (length plain)) [
        | inl some ↦ let near = allowed.limit some in omega (arith, was.len)
        | inr none ↦ omega (arith, was.len)
      ])

  -- a read stops at chunk i
  pub refused_at : (i : ℕ) (out : List ℕ) (error : Error) → IsOpenedTo seal_of key sealed i out → i ≤ 2 ^ 44
      → StopsAt seal_of key sealed i error → RefusesFrontToEnd seal_of key sealed error
  refused_at i out error was reach why = record { place = i; before = held_before i out was; reach = reach; stops = why }

  -- a last chunk with no byte
  pub held_empty : (i : ℕ) (plain : List ℕ) → length plain ≡ 0 → OpensAsLast seal_of key sealed i plain → OpensAsLast seal_of key sealed i []
  held_empty i plain none held = subst (λ xs. OpensAsLast seal_of key sealed i xs) (nil_from_length plain none) held

-- memory was refused
pub refused_memory : (seal_of : Seal) (key sealed : List ℕ) {T : Type 0} (r : Result T Error)
    → IsErr r × IsErrAnd r (λ e. e ≡ OutOfMemory) → IfErr r (RefusesFrontToEnd seal_of key sealed)
refused_memory seal_of key sealed (Ok x) h = tt
refused_memory seal_of key sealed (Err e) h = record {
  place = 0;
  before = λ i l. absurd (omega arith);
  reach = omega arith;
  stops = rw h.1 tt;
}
