-- What is known of encrypting from a reader of a slice to an empty list, in words of slices.
use Rattle.std.specs.Prelude.{Option, Result, Err, IsTrue}
use Rattle.std.proofs.Common.{◌≡◌, ◌∙◌, ◌⊎◌, ◌^◌, ◌<◌, ◌++◌, ℕ, List, [], ap, inl, inr, length, refl, subst, sym}
use Rattle.age.specs.Armor.{Carries, text_of}
use Rattle.age.specs.Bytes.{AreBytes}
use Rattle.age.specs.Draw.{left_after, taken}
use Rattle.age.specs.EncryptErrors.{EncryptRefusal}
use Rattle.age.specs.Encrypting.{Prepared}
use Rattle.age.specs.ErrorKindVariants as kind
use Rattle.age.specs.ErrorVariants as io
use Rattle.age.specs.File.{file_text}
use Rattle.age.specs.FileErrorVariants as file
use Rattle.age.specs.Members.{SuiteMembers, ReadMembers, WriteMembers}
use Rattle.age.specs.Payload.{Seal}
use Rattle.age.specs.Reading.{IsQuiet}
use Rattle.age.specs.Stretch.{Stretch, whole}
use Rattle.age.specs.Types.{Error, Format}
use Rattle.age.specs.Claims.{AppendsFile}
use Rattle.age.specs.WholeFiles.{IsWritten, RefusesFile}
use Rattle.age.specs.Recipients.{WrapAnswer}
use Rattle.age_files.specs.Encrypting.{PreparesOf, WhyNoFile}
use Rattle.sazh_core.specs.Encrypting.{AppendsEncrypted, PreparesFrom}
use Rattle.sazh_core.specs.declared.error.CommandError.{CommandError}
use Rattle.sazh_core.specs.declared.error.CommandError.TheVariants.{Random, File}
use Rattle.sazh_core.specs.declared.error.RandomError.TheVariants as random

-- which bytes a source gives that has them handed in
abbrev pub gives : List ℕ → ℕ → Option (List ℕ) → List ℕ → Type 0
gives before count given after = (given ≡ taken count before) × (after ≡ left_after count before)

-- what was appended to an empty list is written
pub file_written : {W : Type 0} (items : W → List ℕ) (seal_of : Seal) (format : Format) (made : Prepared) (input : Stretch) (plain : List ℕ)
    (old new : W) →
    input ≡ whole plain → items old ≡ [] → AreBytes plain
    → AppendsFile seal_of (λ a x b. items b ≡ items a ++ x) (text_of format) made input old new →
    IsWritten seal_of (text_of format) plain made (items new)
file_written items seal_of format made input plain old new is empty bytes done =
    let same = ap (λ s. s.bytes) is in
    let text = file_text seal_of made.file_key made.stanzas made.nonce plain in
    let out : items new ≡ text_of format text = rw (empty, same) at done.out in
    record {
      within = rw same at done.within;
      text = out;
      carries = subst (λ written. Carries written text) (sym out) ((rw same at done.carries) bytes);
      is_file = rw same at done.is_file;
    }

no_interruption : (d : Error) → io.Device kind.Interrupted ≡ d → d ≡ io.OutOfMemory → ⊥
no_interruption d is memory = absurd (Prim.cc)

-- a writer that refuses for want of memory alone
memory_alone : {W : Type 0} (refuses : W → ℕ → Error → Type 0) (old : W) (size : ℕ) (e : Error) →
    ((n : ℕ) (d : Error) → refuses old n d → d ≡ io.OutOfMemory)
    → RefusesFile refuses old size e → (e ≡ io.OutOfMemory) ⊎ ((e ≡ io.TooLong) × (2 ^ 60 < size))
memory_alone refuses old size e memory (inl long) = inr long
memory_alone refuses old size e memory (inr (inl want)) = inl want
memory_alone refuses old size e memory (inr (inr (n, inl h))) = inl (memory n e h.1)
memory_alone refuses old size e memory (inr (inr (n, inr worn))) =
    absurd (no_interruption (io.Device kind.Interrupted) refl (memory n (io.Device kind.Interrupted) worn.1))

abbrev refusal : CommandError → Result (Unit {0}) CommandError
refusal e = Err e

module _ {T : Type 0} (wraps : T → List ℕ → List ℕ → WrapAnswer → List ℕ → Type 0) (keys : List T) (count : ℕ) (source given after : List ℕ)
    (is : source ≡ given) where
  -- the bytes that the source gave are the first of those that were handed in
  pub prepares_of : (outcome : Result Prepared EncryptRefusal) → PreparesFrom gives wraps keys count source after outcome → PreparesOf wraps keys
      count given outcome
  prepares_of outcome (draws, left, gave, prepares) = (draws, left, sym (gave.0.0 ∙ ap (λ g. taken count g) is), prepares)

  module _ {S R W : Type 0} (suite : SuiteMembers S) (read : ReadMembers R) (write : WriteMembers W) (format : Format) (input last : R)
      (old new : W) (plain : List ℕ)
      (told : IsTrue (read.tells input)) (rest : read.rest input ≡ whole plain) (quiet : IsQuiet (read.faults input) (read.faults last))
      (memory : (n : ℕ) (d : Error) → write.refuses old n d → d ≡ io.OutOfMemory) where
    abbrev Refused : CommandError → Type 0
    Refused e = AppendsEncrypted gives wraps keys count source after suite read write format input last old new (refusal e)

    -- why a file isn't written, in words of slices
    pub why_no_file : (e : CommandError) → Refused e → WhyNoFile wraps keys count given plain e
    why_no_file (Random random.NoRandom) encrypts = elim encrypts.random.0 [
      | inl none ↦ sym (none.1.0 ∙ ap (λ g. taken count g) is)
      | inr other ↦ absurd (Prim.cc)
    ]
    why_no_file (Random random.OutOfMemory) encrypts = tt
    why_no_file (File (file.Encrypt e)) encrypts = elim encrypts.why [
      | inl want ↦ inl want.0
      | inr prepares ↦ inr (prepares_of (Err _) prepares)
    ]
    why_no_file (File (file.Io e)) encrypts =
        let well : IsTrue (read.rest input).ends_well = rw rest refl in
        let size : length (read.rest input).bytes ≡ length plain = ap (λ (s : Stretch). length s.bytes) rest in
        subst (λ n. (e ≡ io.OutOfMemory) ⊎ ((e ≡ io.TooLong) × (2 ^ 60 < n))) size
        (memory_alone write.refuses old (length (read.rest input).bytes) e memory (encrypts.io.1.why told well quiet))
    why_no_file (File (file.Decrypt e)) encrypts = encrypts.why
