-- Records that were written in memory, and why one of them isn't read back.
use Rattle.std.specs.Prelude.{Option, None, Ok, IsTrue, ◌⊎◌, slice_get}
use Rattle.std.proofs.Common.{◌≡◌, ℕ, ◌+◌, ◌^◌, ◌≤◌, List, [], ◌∷◌, length, ap, refl, sym, subst, arith, inl, inr}
use Rattle.age.specs.Armor.{Carries}
use Rattle.age.specs.EncryptErrors.{EncryptRefusal}
use Rattle.age.specs.Encrypting.{Prepared, Prepares}
use Rattle.age.specs.ErrorVariants.{OutOfMemory}
use Rattle.age.specs.FileErrorVariants as file
use Rattle.age.specs.Identities.{FirstAnswer, IsFileFor, UnwrapAnswer}
use Rattle.age.specs.File.{file_text}
use Rattle.age.specs.FileLaws.{PreparesApart}
use Rattle.age.specs.Payload.{Seal}
use Rattle.age.specs.Several.{AnyDecrypts, BelongsToOne}
use Rattle.age.specs.Stanza.{StanzaValue}
use Rattle.age.specs.StreamWriting.{Refused, WasMade, taken_len}
use Rattle.age.specs.Stretch.{Stretch, whole}
use Rattle.age.specs.Types.{Error, StreamWriter}
use Rattle.age.specs.Recipients.{WrapAnswer}
use Rattle.age.specs.Writing.{Retried}
use Rattle.age_examples.specs.Keys.{IsWhole}
use Rattle.age_records.specs.declared.error.RecordError.{RecordError}
use Rattle.age_records.specs.declared.error.RecordError.TheVariants.{Io, NoSuchRecord}
use Rattle.age_examples.specs.RecordFiles.{IsOpenWant}
use Rattle.age_examples.specs.RecordsBack.{RefusesRecordBack, RefusesThrough}
use Rattle.age_examples.specs.declared.record_files.RecordFileError.{RecordFileError}
use Rattle.age_examples.specs.declared.record_files.RecordFileError.TheVariants.{File, Record}

module _ {S W : Type 0} (writer : StreamWriter S W) (n : ℕ) (key : List ℕ) (inner : W) (made : WasMade key inner writer) (within : n ≤ 2 ^ 60) where
  fits : taken_len writer + n ≤ 2 ^ 60
  fits = omega (arith, within, made.none_sealed, writer.held.ok.0, ap length made.none_held)

  once : (e : Error) → Refused (λ (w : W) (m : ℕ) (it : Error). it ≡ OutOfMemory) writer n e → e ≡ OutOfMemory
  once e (inl (failed, is)) = let good = made.good in absurd (cc)
  once e (inr (_, inl (is, long))) = absurd (omega (arith, long, fits))
  once e (inr (_, inr (inl memory))) = memory
  once e (inr (_, inr (inr (m, inl (_, memory))))) = memory
  once e (inr (_, inr (inr (m, inr (_, interrupted))))) = absurd (cc)

  -- within the limit a new writer over memory refuses for want of it alone
  pub memory-alone : (e : Error) → Retried (Refused (λ (w : W) (m : ℕ) (it : Error). it ≡ OutOfMemory)) writer n e → e ≡ OutOfMemory
  memory-alone e (inl (_, why)) = once e why
  memory-alone e (inr (_, why)) = let never = once _ why in absurd (cc)

pub want-back : (records : List (List ℕ)) (i : ℕ) (e : RecordError) → e ≡ Io OutOfMemory → RefusesRecordBack records i e
want-back records i e memory = subst (λ e. RefusesRecordBack records i e) (sym memory) (inl refl)

pub refused-back : (records : List (List ℕ)) (i : ℕ) (e : RecordError) →
    (e ≡ Io OutOfMemory) ⊎ ((e ≡ NoSuchRecord) × (slice_get records i ≡ None)) → RefusesRecordBack records i e
refused-back records i e (inl memory) = want-back records i e memory
refused-back records i e (inr (none, missing)) = subst (λ e. RefusesRecordBack records i e) (sym none) missing

pub want-through : (Unprepared : EncryptRefusal → Type 0) (records : List (List ℕ)) (i : ℕ) (e : RecordFileError) → IsOpenWant e
    → RefusesThrough Unprepared records i e
want-through Unprepared records i (File (file.Io e)) want = inl want
want-through Unprepared records i (File (file.Encrypt e)) want = absurd want
want-through Unprepared records i (File (file.Decrypt e)) want = want
want-through Unprepared records i (Record e) want = want-back records i e want

-- What was read of a file that was written whole is one for an identity that belongs to one of its recipients.
pub read-for : {R I : Type 0} (seal_of : Seal) (wraps : R → List ℕ → List ℕ → WrapAnswer → List ℕ → Type 0)
    (unwraps : I → List StanzaValue → UnwrapAnswer → I → Type 0) →
    AnyDecrypts wraps unwraps seal_of → (recipients : List R) (grease : Option StanzaValue) (draws left plain file : List ℕ) →
    ((prepared : Prepared) × Prepares wraps recipients grease draws (Ok prepared) left × IsWhole seal_of prepared plain file) →
    (identities : List I) (identity : I) → identities ≡ identity ∷ [] → BelongsToOne wraps unwraps recipients identity →
    PreparesApart wraps recipients grease draws left seal_of plain → (read : Stretch) → read ≡ whole file →
    (text : List ℕ) × IsTrue read.ends_well × Carries read.bytes text × IsFileFor seal_of (FirstAnswer unwraps identities) plain text
read-for seal_of wraps unwraps any recipients grease draws left plain file (prepared, prepares, made) identities identity alone one apart read is = (
  file_text seal_of prepared.file_key prepared.stanzas prepared.nonce plain,
  subst (λ (s : Stretch). IsTrue s.ends_well) (sym is) refl,
  subst (λ (s : Stretch). Carries s.bytes (file_text seal_of prepared.file_key prepared.stanzas prepared.nonce plain)) (sym is) made.carries,
  subst (λ those. IsFileFor seal_of (FirstAnswer unwraps those) plain (file_text seal_of prepared.file_key prepared.stanzas prepared.nonce plain))
      (sym alone)
      (any recipients identity grease draws left prepared plain _ one prepares made.is_file made.bytes made.within
      (apart prepared prepares made.is_file)),
)
