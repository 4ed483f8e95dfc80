-- What comes of a plaintext that is read from a device and written to another.
use Rattle.std.specs.Prelude.{◌≡◌, ◌⊎◌, ℕ, List, Result, Ok, Err, OnOk}
use Rattle.std.proofs.Common.{inl, inr, subst}
use Rattle.age.specs.Claims.{AppendsPlaintext}
use Rattle.age.specs.DecryptErrors.{OutOfMemory as no_memory}
use Rattle.age.specs.EncryptErrors.{EncryptRefusal}
use Rattle.age.specs.ErrorVariants.{OutOfMemory}
use Rattle.age.specs.FileErrors.{IfIo, DecryptsUnless}
use Rattle.age.specs.FileErrorVariants.{Io, Encrypt, Decrypt}
use Rattle.age.specs.Payload.{Seal}
use Rattle.age.specs.Stanza.{StanzaValue}
use Rattle.age.specs.Stretch.{Stretch}
use Rattle.age.specs.Types.{Error, FileError}
use Rattle.age.specs.Writing.{HandsOn}
use Rattle.age_claims.specs.Claims.{RefusesBack, RefusesRekeying}

-- what refuses to be encrypted in memory refuses so, whatever it is decrypted to
pub refused_before : {W : Type 0} (P : EncryptRefusal → Type 0) (refuses : W → ℕ → Error → Type 0) (w : W) (size : ℕ) (e : FileError)
    → RefusesBack P size e → RefusesRekeying P refuses w size e
refused_before P refuses w size (Io e) (inl memory) = inr (inl memory)
refused_before P refuses w size (Io e) (inr long) = inl long
refused_before P refuses w size (Encrypt e) why = why
refused_before P refuses w size (Decrypt e) why = why

-- a file for the identities is refused for want of memory, or as the writer refuses
pub refused_after : {W : Type 0} (P : EncryptRefusal → Type 0) (refuses : W → ℕ → Error → Type 0) (w : W) (size : ℕ) (e : FileError)
    → DecryptsUnless (λ refusal. refusal ≡ no_memory) e → IfIo (λ x. (x ≡ OutOfMemory) ⊎ HandsOn refuses w x) e → RefusesRekeying P refuses w size e
refused_after P refuses w size (Io e) decrypts why = inr why
refused_after P refuses w size (Encrypt e) decrypts why = absurd decrypts
refused_after P refuses w size (Decrypt e) decrypts why = decrypts

-- what was appended is just the bytes that were read, and they ended well
pub all_of : {W T E : Type 0} (seal_of : Seal) (gives : List ℕ → List StanzaValue → Type 0) (appended : W → List ℕ → W → Type 0) (input : Stretch)
    (Ended : Type 0) (bytes : List ℕ) (old new : W) (result : Result T E) → Ended
    → ((got : AppendsPlaintext seal_of gives appended input old new) → got.plain ≡ bytes)
    → OnOk result (AppendsPlaintext seal_of gives appended input old new) → OnOk result (Ended × appended old bytes new)
all_of seal_of gives appended input Ended bytes old new (Ok x) ended same got = (ended, subst (λ (l : List ℕ). appended old l new) (same got) got.out)
all_of seal_of gives appended input Ended bytes old new (Err e) ended same got = tt
