-- What an encryption from a reader leaves at its writer.
use Rattle.std.specs.Prelude.{◌≡◌, ◌⊎◌, ℕ, List, Result, Ok, Err, IfErr, OnOk}
use Rattle.std.proofs.Common.{inl, inr}
use Rattle.age.specs.Claims.{AppendsFile}
use Rattle.age.specs.Copying.{AppendsFront}
use Rattle.age.specs.CopyingLemmas.{front-all}
use Rattle.age.specs.EncryptErrors.{EncryptRefusal}
use Rattle.age.specs.Encrypting.{Prepared}
use Rattle.age.specs.File.{file_text}
use Rattle.age.specs.FileErrorVariants as variant
use Rattle.age.specs.FileErrors.{EncryptsUnless, IfIo, IsEncryptError}
use Rattle.age.specs.Payload.{Seal}
use Rattle.age.specs.Stretch.{Stretch}
use Rattle.age.specs.Types.{FileError}

module _ {W : Type 0} (seal_of : Seal) (appended : W → List ℕ → W → Type 0) (form : List ℕ → List ℕ) (IsPrepared : Prepared → Type 0)
    (input : Stretch) (old new : W) where
  abbrev text : Prepared → List ℕ
  text file = form (file_text seal_of file.file_key file.stanzas file.nonce input.bytes)

  -- nothing, or a beginning of the file, of which a success is all
  pub left_of : {T : Type 0} (Kept : Type 0) (IsCause : EncryptRefusal → Type 0) (result : Result T FileError)
      → OnOk result ((file : Prepared) × IsPrepared file × AppendsFile seal_of appended form file input old new)
      → IfErr result (λ e. IsEncryptError e → Kept × (new ≡ old))
      → IfErr result (IfIo (λ _. (file : Prepared) × IsPrepared file × AppendsFront appended (text file) old new))
      → IfErr result (EncryptsUnless IsCause)
      → (new ≡ old) ⊎ ((file : Prepared) × IsPrepared file × AppendsFront appended (text file) old new)
  left_of Kept IsCause (Ok x) (file, prepares, made) refused front why = inr (file, prepares, front-all appended (text file) old new made.out)
  left_of Kept IsCause (Err (variant.Io e)) whole refused front why = inr front
  left_of Kept IsCause (Err (variant.Encrypt e)) whole refused front why = inl (refused tt).1
  left_of Kept IsCause (Err (variant.Decrypt e)) whole refused front why = absurd why
