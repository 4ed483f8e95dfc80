-- What the claims speak of.
use Rattle.std.proofs.Common.{◌+◌, Bool, true, false, IsTrue, get_or}
use Rattle.std.specs.Prelude.{◌≡◌, ◌≢◌, ◌⊎◌, ℕ, ◌^◌, ◌<◌, ◌≤◌, ◌*◌, List, [], ◌∷◌, ◌++◌, length, take, codes, Option, None, Some, Ok, Err}
use Rattle.age.specs.AnswerVariants.{Bytes, At, Fault}
use Rattle.age.specs.Armor.{Carries}
use Rattle.age.specs.Claims.{AppendsFile}
use Rattle.age.specs.Copying.{AppendsFront}
use Rattle.age.specs.Cursor.{IsOutside}
use Rattle.age.specs.DecryptErrors as decrypt
use Rattle.age.specs.DecryptErrors.{decrypt_refusal}
use Rattle.age.specs.EncryptErrors.{EncryptRefusal, encrypt_refusal}
use Rattle.age.specs.Encrypting.{Prepared}
use Rattle.age.specs.ErrorVariants.{OutOfMemory, TooLong}
use Rattle.age.specs.File.{file_front}
use Rattle.age.specs.FileErrorVariants as variant
use Rattle.age.specs.Identities.{UnwrapAnswer, Unwraps, CarriesFile, GivesFirst, IsFileFor}
use Rattle.age.specs.OpVariants.{Read, Seek}
use Rattle.age.specs.Bytes.{AreBytes}
use Rattle.age.specs.Payload.{Seal, chunk, chunk_nonce, payload, payload_key, piece, plain_len, EndsAsLast}
use Rattle.age.specs.PayloadAnswers.{OpensAs}
use Rattle.age.specs.PayloadRefusals.{IsAllowed}
use Rattle.age.specs.PayloadTargets.{sought_in, IsRefusedTarget, IsToEnd}
use Rattle.age.specs.Stanza.{StanzaValue}
use Rattle.age.specs.StreamWriting.{WasMade, inner_of}
use Rattle.age.specs.Stretch.{Stretch, whole}
use Rattle.age.specs.Types.{Answer, Error, FileError, Op, StreamWriter}
use Rattle.age.specs.WholeFiles.{RefusesFile}
use Rattle.age.specs.X25519.{HasShare, opened_with}

-- Whenever the identities give a file key to the stanzas of a header, it is the same one.
abbrev pub GiveOneKey : {I : Type 0} → (I → List StanzaValue → UnwrapAnswer → I → Type 0) → List I → Type 0
GiveOneKey {I} unwraps identities = (stanzas : List StanzaValue) (key other : List ℕ) (after later : List I)
    → GivesFirst unwraps identities after key stanzas → GivesFirst unwraps identities later other stanzas → key ≡ other

-- Whatever the identity answers to the stanzas is this, unless memory is refused. With None it passes over them.
abbrev pub AnswersAlways : {I : Type 0} → (I → List StanzaValue → UnwrapAnswer → I → Type 0) → List StanzaValue → UnwrapAnswer → I → Type 0
AnswersAlways {I} unwraps stanzas this identity = (answer : UnwrapAnswer) (after : I) → Unwraps unwraps identity stanzas answer after
    → (answer ≡ this) ⊎ (answer ≡ Some (Err decrypt.OutOfMemory))

-- The stanza is of another type than X25519, or it has what that type asks, and the secret doesn't open its body.
abbrev pub IsUnopened : (List ℕ → List ℕ → List ℕ → Option (List ℕ)) → (List ℕ → List ℕ → List ℕ) → (List ℕ → List ℕ) → List ℕ → StanzaValue → Type 0
IsUnopened opened shared_of public_of secret stanza = (stanza.tag ≢ codes "X25519")
    ⊎ ((stanza.tag ≡ codes "X25519") × ((share : List ℕ) × HasShare share stanza
    × (opened_with opened shared_of public_of secret share stanza.body ≡ None)))

-- The text carries a file of the plaintext for those who answer so.
pub record CarriesFor (seal_of : Seal) (answers : List StanzaValue → UnwrapAnswer → Type 0) (plain text : List ℕ) : Type 0 where
  pub file : List ℕ
  pub carries : Carries text file
  pub is_for : IsFileFor seal_of answers plain file

-- The file's header, its nonce, and its first n chunks.
abbrev pub first_chunks : {answers : List StanzaValue → UnwrapAnswer → Type 0} {plain file : List ℕ} (seal_of : Seal)
    → IsFileFor seal_of answers plain file
    → ℕ → List ℕ
first_chunks {answers} {plain} {file} seal_of for n =
    file_front for.file_key for.stanzas for.is_file.nonce ++ take (65552 * n) (payload seal_of (payload_key for.file_key for.is_file.nonce) plain)

-- Chunk i of a plaintext, a middle one, isn't the seal of any bytes as the last chunk too. Under a fresh key of a cipher with tags of 16 bytes that
-- fails by a chance of about 2^-128; who knows the key can make a plaintext for which it does.
abbrev pub HasNoLastSeal : Seal → (key plain : List ℕ) → ℕ → Type 0
HasNoLastSeal seal_of key plain i =
    (other : List ℕ) → AreBytes other → seal_of key (chunk_nonce i false) (piece i plain) ≡ seal_of key (chunk_nonce i true) other → ⊥

-- Why a plaintext of so many bytes isn't encrypted in memory and decrypted again: memory was refused, or it is too long, or the recipients or the
-- random bytes refused for this.
abbrev pub RefusesBack : (EncryptRefusal → Type 0) → ℕ → FileError → Type 0
RefusesBack Unprepared size (variant.Io e) = (e ≡ OutOfMemory) ⊎ ((e ≡ TooLong) × (2 ^ 60 < size))
RefusesBack Unprepared size (variant.Encrypt e) = Unprepared (encrypt_refusal e)
RefusesBack Unprepared size (variant.Decrypt e) = decrypt_refusal e ≡ decrypt.OutOfMemory

-- Why a plaintext of so many bytes isn't decrypted and encrypted to a writer: memory was refused, or it is too long, or the writer refuses so, or
-- the recipients or the random bytes did for this.
abbrev pub RefusesRekeying : {W : Type 0} → (EncryptRefusal → Type 0) → (W → ℕ → Error → Type 0) → W → ℕ → FileError → Type 0
RefusesRekeying Unprepared refuses writer size (variant.Io e) = RefusesFile refuses writer size e
RefusesRekeying Unprepared refuses writer size (variant.Encrypt e) = Unprepared (encrypt_refusal e)
RefusesRekeying Unprepared refuses writer size (variant.Decrypt e) = decrypt_refusal e ≡ decrypt.OutOfMemory

-- An input ended well and carried a file, and between two states of a writer the file of exactly its plaintext was appended, as it was prepared.
pub record AppendsRekeyed {W : Type 0} (seal_of : Seal) (gives : List ℕ → List StanzaValue → Type 0) (IsPrepared : Prepared → Type 0)
    (appended : W → List ℕ → W → Type 0) (form : List ℕ → List ℕ) (input : Stretch) (old new : W) : Type 0 where
  pub plain : List ℕ
  pub ended : IsTrue input.ends_well
  pub carries : CarriesFile seal_of gives input.bytes plain
  pub prepared : Prepared
  pub prepares : IsPrepared prepared
  pub appends : AppendsFile seal_of appended form prepared (whole plain) old new

-- Where a writer was made under a key and took a plaintext since, the writer below has got a beginning of the payload of the plaintext and of the
-- bytes that it is given then, and nothing else, also where the writer failed.
abbrev pub HasBegun : {S W : Type 0} → Seal → (W → List ℕ → W → Type 0) → (StreamWriter S W → List ℕ → StreamWriter S W → Type 0)
    → StreamWriter S W → List ℕ → StreamWriter S W → Type 0
HasBegun {S} {W} seal_of below appended before bytes after =
    (start : StreamWriter S W) (key plain : List ℕ) (first : W) → WasMade key first start → appended start plain before
    → AppendsFront below (payload seal_of key (plain ++ bytes)) first (inner_of after)

-- By the payload's length its plaintext has this place, or ends there.
pub record ReachesPlace (place : ℕ) (sealed : Stretch) : Type 0 where
  pub len : ℕ
  pub plain : plain_len (length sealed.bytes) ≡ Some len
  pub inside : place ≤ len

-- This byte stands at its place among those that the chunk there is held with: it is the seal of them as a middle chunk, or as the last where it is
-- none in the middle, and isn't refused by itself. A chunk that isn't full is held only where the payload ends well.
pub record IsHeldAt (seal_of : Seal) (key : List ℕ) (sealed : Stretch) (place byte : ℕ) : Type 0 where
  pub number : ℕ
  pub at : ℕ
  pub last : Bool
  pub plain : List ℕ
  pub stands : place ≡ 65536 * number + at
  pub within : at < length plain
  pub small : length plain ≤ 65536
  pub held : OpensAs last seal_of key sealed.bytes number plain
  pub allowed : IsAllowed number plain
  pub judged : length (chunk number sealed.bytes) < 65552 → sealed.ends_well ≡ true
  pub is : byte ≡ get_or plain at 0

-- so do these bytes, from this place on
abbrev pub AreHeldAt : Seal → List ℕ → Stretch → ℕ → List ℕ → Type 0
AreHeldAt seal_of key sealed place bytes = (i : ℕ) → i < length bytes → IsHeldAt seal_of key sealed (place + i) (get_or bytes i 0)

-- the payload ends well, and the device below never fails
abbrev pub IsCalm : {R : Type 0} → (R → ℕ) → Stretch → Type 0
IsCalm {R} faults sealed = IsTrue sealed.ends_well × ((r : R) → faults r ≡ 0)

-- What a read or a seek at a place of a payload answers, however bad the payload is. A read gives no more than was asked for, and fewer before a
-- refusal, and what it gives is held in the payload from the place on. A seek leads to its target by the payload's length, and to the end only
-- where the last chunk is a seal as the last. It calls a target outside only where that is so by the length. Where all is calm, any other refusal
-- but want of memory is one of the length, or of the last chunk.
abbrev pub AnswersAt : Type 0 → Seal → List ℕ → Stretch → Op → Answer → ℕ → Type 0
AnswersAt Calm seal_of key sealed (Read n) (Bytes got) place = (length got.items ≤ n) × AreHeldAt seal_of key sealed place got.items
AnswersAt Calm seal_of key sealed (Read n) (Fault got e) place = (length got.items < n) × AreHeldAt seal_of key sealed place got.items
AnswersAt Calm seal_of key sealed (Seek to) (At n) place =
    (sought_in to place (length sealed.bytes) ≡ Ok n) × (IsToEnd (length sealed.bytes) to place → EndsAsLast seal_of key sealed.bytes)
AnswersAt Calm seal_of key sealed (Seek to) (Fault got e) place = (got.items ≡ [])
    × (IsOutside e → sought_in to place (length sealed.bytes) ≡ Err e)
    × (Calm → e ≢ OutOfMemory → IsRefusedTarget seal_of key sealed.bytes to place e)
AnswersAt Calm seal_of key sealed _ _ place = ⊥

-- where it stands then: behind the bytes that it gave, or where a seek led
abbrev pub place_behind : Answer → ℕ → ℕ
place_behind (Bytes got) place = place + length got.items
place_behind (At n) place = n
place_behind (Fault got e) place = place + length got.items

-- So it answers each in turn, from the place where the answer before leaves it, and stands at this place in the end.
abbrev pub AnswersFrom : Type 0 → Seal → List ℕ → Stretch → List Op → List Answer → ℕ → ℕ → Type 0
AnswersFrom Calm seal_of key sealed [] [] place end = end ≡ place
AnswersFrom Calm seal_of key sealed (op ∷ ops) (a ∷ answers) place end =
    AnswersAt Calm seal_of key sealed op a place × AnswersFrom Calm seal_of key sealed ops answers (place_behind a place) end
AnswersFrom Calm seal_of key sealed _ _ place end = ⊥

-- In the plaintext of a payload of so many bytes, which is no longer than 2^60, this place stands before the end, and room of so many bytes from
-- there on, one or more, ends in the chunk in which it begins.
pub record IsInOne (size place room chunk : ℕ) : Type 0 where
  pub len : ℕ
  pub plain : plain_len size ≡ Some len
  pub limit : len ≤ 2 ^ 60
  pub inside : place < len
  pub some : 0 < room
  pub from : 65536 * chunk ≤ place
  pub within : place + room ≤ 65536 * chunk + 65536
