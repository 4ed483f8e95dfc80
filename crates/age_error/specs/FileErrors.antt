-- What a call on a whole file was about when it refused.
use Rattle.std.specs.Prelude.{◌≡◌, ◌⊎◌}
use Rattle.age_error.specs.DecryptErrors.{DecryptRefusal, OutOfMemory, decrypt_refusal}
use Rattle.age_error.specs.EncryptErrors.{EncryptRefusal, encrypt_refusal}
use Rattle.age_error.specs.declared.io.Error.{Error}
use Rattle.age_error.specs.declared.file.FileError.{FileError}
use Rattle.age_error.specs.declared.file.FileError.TheVariants.{Decrypt, Encrypt, Io}
use Rattle.age_error.specs.declared.io.Error.TheVariants as io

-- the recipients, the random bytes or the header's memory
abbrev pub IsEncryptError : FileError → Type 0
IsEncryptError (Encrypt e) = Unit {0}
IsEncryptError other = ⊥

-- the header or the identities
abbrev pub IsDecryptError : FileError → Type 0
IsDecryptError (Decrypt e) = Unit {0}
IsDecryptError other = ⊥

-- the reader or the writer
abbrev pub IsIoError : FileError → Type 0
IsIoError (Io e) = Unit {0}
IsIoError other = ⊥

-- what holds of the reader's or the writer's error, where it is one
abbrev pub IfIo : (Error → Type 0) → FileError → Type 0
IfIo Holds (Io e) = Holds e
IfIo Holds other = Unit {0}

-- an error of encryption is one of these refusals, and none is of decryption
abbrev pub EncryptsUnless : (EncryptRefusal → Type 0) → FileError → Type 0
EncryptsUnless IsCause (Io e) = Unit {0}
EncryptsUnless IsCause (Encrypt e) = IsCause (encrypt_refusal e)
EncryptsUnless IsCause (Decrypt e) = ⊥

-- an error of decryption is one of these refusals, and none is of encryption
abbrev pub DecryptsUnless : (DecryptRefusal → Type 0) → FileError → Type 0
DecryptsUnless IsCause (Io e) = Unit {0}
DecryptsUnless IsCause (Encrypt e) = ⊥
DecryptsUnless IsCause (Decrypt e) = IsCause (decrypt_refusal e)

-- the target is past the end, or memory was refused
abbrev pub IsPastEnd : FileError → Type 0
IsPastEnd (Io e) = (e ≡ io.PastEnd) ⊎ (e ≡ io.OutOfMemory)
IsPastEnd (Encrypt e) = ⊥
IsPastEnd (Decrypt e) = decrypt_refusal e ≡ OutOfMemory

-- memory was refused
abbrev pub IsWant : FileError → Type 0
IsWant (Io e) = e ≡ io.OutOfMemory
IsWant (Encrypt e) = ⊥
IsWant (Decrypt e) = decrypt_refusal e ≡ OutOfMemory
