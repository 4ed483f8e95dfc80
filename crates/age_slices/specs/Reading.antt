-- What comes of reading a file by its header and its chunks in order, and of reading one piece by its number.
use Rattle.std.specs.Prelude.{◌≡◌, ℕ, ◌<◌, ◌≤◌, ◌⊎◌, false, List, length, take, nat_eq, Option, None, Result, Err, IfOk, MatchResult}
use Rattle.age.specs.Bytes.{AreBytes}
use Rattle.age.specs.Identities.{GivesFirst, FirstAnswer, IsFileFor, UnwrapAnswer}
use Rattle.age.specs.File.{IsFileOf}
use Rattle.age.specs.FileErrors.{IsWant}
use Rattle.age.specs.ErrorVariants as io
use Rattle.age.specs.Payload.{Seal, chunk, final_chunk, last_piece, chunk_nonce, payload, piece}
use Rattle.age.specs.Stanza.{StanzaValue}
use Rattle.age.specs.Types.{Error, FileError}

-- the rest begins with no full chunk, or with one that isn't opened as one before the last
abbrev pub IsNoMiddle : (List ℕ → List ℕ → List ℕ → Option (List ℕ)) → List ℕ → ℕ → List ℕ → Type 0
IsNoMiddle opened key number rest = (length rest < 65552)
    ⊎ ((65552 ≤ length rest) × (opened key (chunk_nonce number false) (take 65552 rest) ≡ None))

module _ {I : Type 0} (unwraps : I → List StanzaValue → UnwrapAnswer → I → Type 0) (seal_of : Seal) where
  pub record ReadsByChunks (identities asked : List I) (file : List ℕ) (answer : Result (List ℕ) FileError) : Type 0 where
    -- A success says that the bytes are a file of exactly what was answered, under the file key that the first of the identities gives who answers.
    pub success : IfOk answer (λ plain. (file_key : List ℕ) × (stanzas : List StanzaValue) × GivesFirst unwraps identities asked file_key stanzas
        × IsFileOf seal_of file_key stanzas plain file)
    -- A file for the identities is refused for want of memory alone, and gives its plaintext.
    pub honest : (plain : List ℕ) → IsFileFor seal_of (FirstAnswer unwraps identities) plain file → MatchResult answer (λ given. given ≡ plain) IsWant

module _ (seal_of : Seal) (key : List ℕ) (number : ℕ) (sealed : List ℕ) where
  pub record ReadsPiece (answer : Result (List ℕ) Error) : Type 0 where
    -- A success says that the chunk of this number is the seal of what was answered: as the last one where the payload ends with it, and elsewhere as
    -- one before it.
    pub success : IfOk answer (λ plain. AreBytes plain
        × (chunk number sealed ≡ seal_of key (chunk_nonce number (nat_eq number (final_chunk (length sealed)))) plain))
    -- A payload gives the piece of its plaintext, or is refused for want of memory.
    pub honest : (plain : List ℕ) → AreBytes plain → sealed ≡ payload seal_of key plain → number ≤ last_piece (length plain)
        → MatchResult answer (λ given. given ≡ piece number plain) (λ e. e ≡ io.OutOfMemory)
    -- Only past the end of what was given there is none.
    pub outside : answer ≡ Err io.PastEnd → final_chunk (length sealed) < number
