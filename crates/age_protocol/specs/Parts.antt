-- Files for the identities that open them, and parts of their plaintexts.
use Rattle.std.specs.Prelude.{IfErr, List, MatchResult, OnOk, Result, Some, [], drop, length, take, ℕ, ◌+◌, ◌<◌, ◌≡◌, ◌≤◌, ◌⊎◌}
use Rattle.age_error.specs.DecryptErrors.{OutOfMemory}
use Rattle.age_error.specs.declared.io.Error.{Error}
use Rattle.age_io.specs.Writing.{HandsOn}
use Rattle.age_io.specs.Stretch.{Stretch}
use Rattle.age_io.specs.Copying.{AppendsFront, AppendsSome}
use Rattle.age_v1.specs.Stanza.{StanzaValue}
use Rattle.age_format.specs.HeaderV1.{HeaderValue}
use Rattle.age_stream.specs.Keeping.{Stops}
use Rattle.age_v1.specs.Payload.{Seal, plain_len}
use Rattle.age_v1.specs.PayloadAnswers.{IsGoodEnd, StandAt}
use Rattle.age_error.specs.FileErrors.{DecryptsUnless, IfIo, IsPastEnd}
use Rattle.age_protocol.specs.Texts.{UnderMac}
use Rattle.age_error.specs.declared.file.FileError.{FileError}
use Rattle.age_error.specs.declared.io.Error.TheVariants as io

-- under this key these bytes stand in the plaintext of a payload from a place on, whatever its other chunks are
abbrev pub StandsAt : Seal → ℕ → List ℕ → Stretch → List ℕ → Type 0
StandsAt seal_of place key sealed out = StandAt seal_of key sealed.bytes place out

-- and they are so many, or fewer up to an end where the payload's own length puts it and where its last chunk is one
abbrev pub IsPartAt : Seal → ℕ → ℕ → List ℕ → Stretch → List ℕ → Type 0
IsPartAt seal_of place count key sealed out =
    StandsAt seal_of place key sealed out × (length out < count → IsGoodEnd seal_of key sealed (place + length out))

-- by its own length a payload has a plaintext, and one of fewer bytes than stand before the place
pub record EndsBefore (place : ℕ) (sealed : Stretch) : Type 0 where
  pub len : ℕ
  pub plain : plain_len (length sealed.bytes) ≡ Some len
  pub short : len < place

-- Why a payload refuses a part of its plaintext: it ends before the place, and then nothing is appended, or its own length is past what a plaintext
-- may have, or as only seeks of the reader below refuse, or for what the definition names for one of its chunks, or its end.
abbrev pub RefusesPart : Seal → (Error → Type 0) → ℕ → Error → List ℕ → Stretch → List ℕ → Type 0
RefusesPart seal_of below place e key sealed out =
    ((e ≡ io.PastEnd) × (out ≡ []) × EndsBefore place sealed) ⊎ (e ≡ io.TooLong) ⊎ below e ⊎ Stops seal_of key sealed (Unit {0}) e

-- The text begins with a header whose MAC is right under the file key that is given to its stanzas, and of the payload after it
-- some bytes were appended.
abbrev pub AppendsOf : {W : Type 0} → (HeaderValue → List ℕ → Stretch → Type 0) → (List ℕ → List StanzaValue → Type 0)
    → (W → List ℕ → W → Type 0) → ℕ → (List ℕ → Stretch → List ℕ → Type 0) → W → W → Type 0
AppendsOf begins gives appended count Holds old new = UnderMac begins gives (λ key sealed. AppendsSome appended count (Holds key sealed) old new)

-- Of a plaintext the bytes from a place on were appended, so many or fewer at the end; after a refusal a beginning of them.
-- Where the device doesn't fail, the file is opened unless memory is refused, and a place after the end is refused as such.
pub record AppendsPart {W T : Type 0} (appended : W → List ℕ → W → Type 0) (refuses : W → ℕ → Error → Type 0) (Quiet : Type 0) (place count : ℕ)
    (plain : List ℕ)
    (old new : W) (result : Result T FileError) : Type 0 where
  pub part : OnOk result ((place ≤ length plain) × appended old (take count (drop place plain)) new)
  pub front : AppendsFront appended (take count (drop place plain)) old new
  pub opened : Quiet → IfErr result (DecryptsUnless (λ refusal. refusal ≡ OutOfMemory))
  pub past_end : Quiet → length plain < place → (new ≡ old) × MatchResult result (λ done. ⊥) IsPastEnd
  -- a place up to the end only where memory is refused, or as the writer does
  pub inside : Quiet → place ≤ length plain → IfErr result (IfIo (λ e. (e ≡ io.OutOfMemory) ⊎ HandsOn refuses old e))
