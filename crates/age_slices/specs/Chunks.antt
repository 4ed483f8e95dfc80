-- Chunks of a payload, one at a time: age-encryption.org/v1, section "Payload".
use Rattle.std.specs.Prelude.{◌≡◌, ◌⊎◌, ℕ, ◌<◌, ◌≤◌, Bool, true, false, List, [], length, Option, Some, None, Result, MatchResult}
use Rattle.age.specs.ErrorVariants as io
use Rattle.age.specs.Payload.{Seal, chunk_nonce}
use Rattle.age.specs.Types.{Error}

-- the length of a chunk: that of a full one where it isn't the last, and at most that where it is
abbrev pub IsChunkLength : Bool → ℕ → Type 0
IsChunkLength false n = n ≡ 65552
IsChunkLength true n = n ≤ 65552

-- the length of a piece of a plaintext, of this number: that of a full one where it isn't the last; the last has a byte at least, unless it is
-- the only one
abbrev pub IsPieceLength : Bool → ℕ → ℕ → Type 0
IsPieceLength false number n = n ≡ 65536
IsPieceLength true number n = (n ≤ 65536) × ((n ≡ 0) → number ≡ 0)

-- What a text opens to as the chunk of this number, as the last one or as one before it. A bad chunk hasn't its length, or is no seal under its
-- nonce; a
-- last chunk that is empty and isn't the only one is refused as such.
abbrev pub OpensChunk : (List ℕ → List ℕ → List ℕ → Option (List ℕ)) → List ℕ → ℕ → Bool → List ℕ → Result (List ℕ) Error → Type 0
OpensChunk opened key number last text answer = MatchResult answer
    (λ plain. IsChunkLength last (length text) × (opened key (chunk_nonce number last) text ≡ Some plain)
    × ((last ≡ true) → (plain ≡ []) → number ≡ 0))
    (λ e. (e ≡ io.OutOfMemory)
    ⊎ ((e ≡ io.BadChunk) × ((IsChunkLength last (length text) → ⊥) ⊎ (opened key (chunk_nonce number last) text ≡ None)))
    ⊎ ((e ≡ io.LastChunkEmpty) × (last ≡ true) × (opened key (chunk_nonce number last) text ≡ Some []) × (0 < number)))

-- The seal of a piece as the chunk of this number, as the last one or as one before it, for a piece of the right length.
abbrev pub SealsChunk : Seal → List ℕ → ℕ → Bool → List ℕ → Result (List ℕ) Error → Type 0
SealsChunk seal_of key number last plain answer = MatchResult answer
    (λ sealed. IsPieceLength last number (length plain) × (sealed ≡ seal_of key (chunk_nonce number last) plain))
    (λ e. (e ≡ io.OutOfMemory) ⊎ ((e ≡ io.BadChunk) × (IsPieceLength last number (length plain) → ⊥)))
