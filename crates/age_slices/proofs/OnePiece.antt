-- One piece of a plaintext, by the number of its chunk.
use Rattle.std.proofs.Common.{◌≡◌, ◌∙◌, refl, sym, ap, subst, ℕ, ◌*◌, ◌<◌, ◌≤◌, Bool, true, false, List, [], length, take, drop, length-drop, Option, Some, arith, inl, inr}
use Rattle.std.specs.Prelude.{nat_eq, Result, Ok, Err, IfOk, MatchResult}
use Rattle.std.proofs.lemmas.Bool.{eqb-true, eqb-false}
use Rattle.age.specs.Bytes.{AreBytes, AreBytesOf}
use Rattle.age.specs.ErrorVariants as io
use Rattle.age.specs.Payload.{Seal, chunk, cut, final_chunk, last_piece, chunk_nonce, payload, piece}
use Rattle.age.specs.Suite.{IsCipher}
use Rattle.age.specs.Types.{Error}
use Rattle.age_slices.specs.Chunks.{IsChunkLength, OpensChunk}
use Rattle.age_slices.specs.Reading.{ReadsPiece}
use Rattle.age_v1.proofs.Cuts.{cut-bytes, cut_rest}
use Rattle.age_v1.proofs.OpenedTexts.{nonce-bytes}
use Rattle.age_v1.proofs.Payloads.{are_pieces, chunk-last, chunk-payload, length-payload, length-seal, piece-bytes}

-- what is left from a chunk's place on is that chunk where it is shorter than a full one
pub left_is : (number : ℕ) (sealed : List ℕ) → length (drop (65552 * number) sealed) < 65552 → drop (65552 * number) sealed ≡ chunk number sealed
left_is number sealed short = sym (cut_rest 65552 number sealed (omega (arith, length-drop (65552 * number) sealed, short)))

pub full_is : (number : ℕ) (sealed : List ℕ) → take 65552 (drop (65552 * number) sealed) ≡ chunk number sealed
unfolding cut
full_is number sealed = refl

module _ (seal_of : Seal) (opened : List ℕ → List ℕ → List ℕ → Option (List ℕ)) (law : IsCipher seal_of opened) (key : List ℕ)
    (k : AreBytesOf 32 key) where
  -- the last chunk of a payload has the number of the last piece
  last_number : (plain : List ℕ) → AreBytes plain → final_chunk (length (payload seal_of key plain)) ≡ last_piece (length plain)
  last_number plain b = omega (arith, length-payload seal_of opened law key k plain b)

  -- A chunk of a payload is the seal of its piece, and has the length of a chunk.
  is_chunk : (plain : List ℕ) (number : ℕ) (last : Bool) → AreBytes plain → number ≤ last_piece (length plain)
      → nat_eq number (last_piece (length plain)) ≡ last
      → (chunk number (payload seal_of key plain) ≡ seal_of key (chunk_nonce number last) (piece number plain))
      × IsChunkLength last (length (seal_of key (chunk_nonce number last) (piece number plain)))
  is_chunk plain number true b fits is =
      let same : number ≡ last_piece (length plain) = eqb-true number (last_piece (length plain)) is in
      let size = length-seal seal_of opened law key k number true (piece number plain) (piece-bytes number plain b) in (
        rw same (chunk-last seal_of opened law key k plain b),
        omega (arith, size, rw (sym same) at (are_pieces plain).last),
      )
  is_chunk plain number false b fits is =
      let other : (number ≡ last_piece (length plain)) → ⊥ = eqb-false number (last_piece (length plain)) is in
      let less : number < last_piece (length plain) = omega (arith, other) in
      let size = length-seal seal_of opened law key k number false (piece number plain) (piece-bytes number plain b) in
      (chunk-payload seal_of opened law key k plain number b less, omega (arith, size, (are_pieces plain).full number less))

  -- the seal of a piece opens to it
  opens : (plain : List ℕ) (number : ℕ) (last : Bool) → AreBytes plain
      → opened key (chunk_nonce number last) (seal_of key (chunk_nonce number last) (piece number plain)) ≡ Some (piece number plain)
  opens plain number last b =
      let p = piece-bytes number plain b in
      (law.opens_exactly key (chunk_nonce number last) _ (piece number plain) k (nonce-bytes number last)
      (law.seal_is_longer key (chunk_nonce number last) (piece number plain) k (nonce-bytes number last) p).bytes).1 (p, refl)

  -- what a chunk of a payload is opened to is its piece
  gives_piece : (plain : List ℕ) (number : ℕ) (last : Bool) (answer : Result (List ℕ) Error) → AreBytes plain → number ≤ last_piece (length plain)
      → nat_eq number (last_piece (length plain)) ≡ last
      → OpensChunk opened key number last (seal_of key (chunk_nonce number last) (piece number plain)) answer
      → MatchResult answer (λ given. given ≡ piece number plain) (λ e. e ≡ io.OutOfMemory)
  gives_piece plain number last (Ok given) b fits is (long, found, first) = let one = opens plain number last b in cc (one, found)
  gives_piece plain number last (Err e) b fits is (inl memory) = memory
  gives_piece plain number last (Err e) b fits is (inr (inl (bad, inl short))) = absurd (short (is_chunk plain number last b fits is).1)
  gives_piece plain number last (Err e) b fits is (inr (inl (bad, inr none))) = let one = opens plain number last b in absurd (cc (one, none))
  gives_piece plain number last (Err e) b fits is (inr (inr (empty, ended, found, later))) =
      let one = opens plain number last b in
      let nothing : piece number plain ≡ [] = cc (one, found) in
      let same : number ≡ last_piece (length plain) = eqb-true number (last_piece (length plain)) (is ∙ ended) in
      let some = (are_pieces plain).some (omega (arith, same, later)) in
      absurd (omega (arith, some, ap length (rw same at nothing)))

  pub reads : (number : ℕ) (sealed : List ℕ) (last : Bool) (answer : Result (List ℕ) Error) → AreBytes sealed → number ≤ final_chunk (length sealed)
      → nat_eq number (final_chunk (length sealed)) ≡ last → OpensChunk opened key number last (chunk number sealed) answer
      → ReadsPiece seal_of key number sealed answer
  reads number sealed last answer bytes fits is told = record {
    success = right answer told;
    honest = λ plain b whole within.
        let ends = ap (λ s. final_chunk (length s)) whole ∙ last_number plain b in
        let is_last = ap (λ n. nat_eq number n) (sym ends) ∙ is in
        let (seal, _) = is_chunk plain number last b within is_last in
        gives_piece plain number last answer b within is_last
        (subst (λ text. OpensChunk opened key number last text answer) (ap (chunk number) whole ∙ seal) told);
    outside = λ past. never answer past told;
  }
    where
      right : (answer : Result (List ℕ) Error) → OpensChunk opened key number last (chunk number sealed) answer
          → IfOk answer (λ plain. AreBytes plain × (chunk number sealed
          ≡ seal_of key (chunk_nonce number (nat_eq number (final_chunk (length sealed)))) plain))
      right (Ok plain) (long, found, first) =
          rw is ((law.opens_exactly key (chunk_nonce number last) (chunk number sealed) plain k (nonce-bytes number last)
          (cut-bytes 65552 number sealed bytes)).0 found)
      right (Err e) told = tt

      never : (answer : Result (List ℕ) Error) → answer ≡ Err io.PastEnd → OpensChunk opened key number last (chunk number sealed) answer
          → final_chunk (length sealed) < number
      never (Ok plain) past told = absurd (cc past)
      never (Err e) past (inl memory) = absurd (cc (past, memory))
      never (Err e) past (inr (inl (bad, why))) = absurd (cc (past, bad))
      never (Err e) past (inr (inr (empty, ended, found, later))) = absurd (cc (past, empty))

  pub past_end : (number : ℕ) (sealed : List ℕ) → final_chunk (length sealed) < number → ReadsPiece seal_of key number sealed (Err io.PastEnd)
  past_end number sealed past = record {
    success = tt;
    honest = λ plain b whole within. absurd (omega (arith, past, within, ap (λ s. final_chunk (length s)) whole ∙ last_number plain b));
    outside = λ same. past;
  }
