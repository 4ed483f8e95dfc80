-- Why a later step of a reader refused, told of it before the steps in between.
use Rattle.std.specs.Prelude.{Some}
use Rattle.std.proofs.Common.{◌≡◌, ℕ, ◌+◌, ◌*◌, ◌≤◌, IsTrue, List, length, sym, ap, subst, ◌∙◌, arith, inl, inr}
use Rattle.age_error.specs.declared.io.Error.{Error}
use Rattle.age_error.specs.declared.io.Error.TheVariants.{Device}
use Rattle.age_error.specs.declared.io.ErrorKind.TheVariants.{Interrupted}
use Rattle.age_io.specs.Reading.{AddsNoReason}
use Rattle.age_io.specs.ReadingLemmas.{quiet_from}
use Rattle.age_io.specs.declared.traits.Read.{Ghosts}
use Rattle.age_v1.specs.PayloadAnswers.{StandAt}
use Rattle.age_v1.specs.Payload.{plain_len}
use Rattle.age_stream.specs.Reader.{payload_of, key_of, tells_of, content_of, faults_of, refuses_of}
use Rattle.age_stream.specs.declared.reader.StreamReader.{StreamReader}
use Rattle.age_suite.specs.declared.suite.Suite.{Ghosts as SuiteGhosts}
use Rattle.age_records.specs.Text.{HoldsRecords, number_text}
use Rattle.age_records.specs.Standing.{HoldsNone}
use Rattle.age_records.specs.Payloads.{AddsNone, HasBytes, IfReaderRefuses, IsCounted, MayRefuse, RefusesCount, RefusesRange, RefusesRecord, SamePayload, SaysCount, Stands}
use Rattle.age_records.specs.declared.error.RecordError.{RecordError}
use Rattle.age_records.specs.declared.error.RecordError.TheVariants.{Damaged, Io, NoSuchRecord}

module _ {S R : Type 0} {suite : SuiteGhosts S} {read : Ghosts R} where
  -- where no reason comes with a step, none does where interruptions are tried again
  pub adds-none-tried : (old new : StreamReader S R suite read) → AddsNoReason (λ (r : StreamReader S R suite read). refuses_of r) old new
      → AddsNone old new
  adds-none-tried old new none e why = elim why [
    | inl plain ↦ inl (plain.0, none e plain.1)
    | inr worn ↦ inr (worn.0, none (Device Interrupted) worn.1)
  ]

  -- why one that adds no reason refuses
  pub may-before : (seek_refuses : Error → Type 0) (old new : StreamReader S R suite read) → AddsNone old new →
      (e : RecordError) → IfReaderRefuses (MayRefuse seek_refuses new) e → IfReaderRefuses (MayRefuse seek_refuses old) e
  may-before seek_refuses old new none NoSuchRecord why = tt
  may-before seek_refuses old new none Damaged why = tt
  may-before seek_refuses old new none (Io e) why = elim why [
    | inl want ↦ inl want
    | inr more ↦ elim more [ inl seek ↦ inr (inl seek) | inr tried ↦ inr (inr (none e tried)) ]
  ]

  -- what stands in the same payload
  pub stands-before : (old mid : StreamReader S R suite read) (place : ℕ) (bytes : List ℕ) → SamePayload old mid → IsTrue (tells_of old) →
      Stands mid place bytes → Stands old place bytes
  stands-before old mid place bytes same told stands =
      subst (λ key. StandAt suite.seal_of key (payload_of old).bytes place bytes) same.key
      (subst (λ payload. StandAt suite.seal_of (key_of mid) payload.bytes place bytes) (same.payload told) stands)

  pub says-before : (old mid : StreamReader S R suite read) (count total : ℕ) → SamePayload old mid → IsTrue (tells_of old) →
      SaysCount count total mid → SaysCount count total old
  says-before old mid count total same told says = record {
    counted = stands-before old mid 0 _ same told says.counted;
    ended = λ some. stands-before old mid (8 * count) _ same told (says.ended some);
  }

  pub none-before : (old mid : StreamReader S R suite read) (len : ℕ) → SamePayload old mid → IsTrue (tells_of old) → HoldsNone (Stands mid) len
      → HoldsNone (Stands old) len
  none-before old mid len same told none = elim none [
    | inl short ↦ inl short
    | inr (n, counted, inl few) ↦ inr (n, stands-before old mid 0 (number_text n) same told counted, inl few)
    | inr (n, counted, inr other) ↦ inr (
      n,
      stands-before old mid 0 (number_text n) same told counted,
      inr (record {
        last = other.last;
        none = other.none;
        stands = λ some. stands-before old mid (8 * n) (number_text other.last) same told (other.stands some);
        other = other.other;
      }),
    )
  ]

  -- a number that has room in the plaintext can't be missing
  pub count-refused : (old mid new : StreamReader S R suite read) (past behind : ℕ) (e : RecordError) → SamePayload old mid
      → faults_of mid ≤ faults_of new → past ≤ 8 + behind →
      (IsTrue (tells_of old) → plain_len (length (payload_of old).bytes) ≡ Some (8 + behind)) →
      (IsTrue (tells_of old) → IsTrue (content_of old).ends_well → length (content_of old).bytes ≡ 8 + behind) →
      RefusesRange past mid new e → RefusesCount old new e
  count-refused old mid new past behind e same rises within sized long refused = record {
    known = refused.known;
    device = λ is. omega (arith, same.faults, refused.device is);
    stands = λ told is len plain. absurd (refused.damaged (same.tells ∙ told) (has told) is);
    damaged = λ told well is holds. refused.damaged (same.tells ∙ told) (has told) is;
    cause = λ told well quiet.
        let content = same.content told in
        let there : past ≤ length (content_of mid).bytes = subst (λ s. past ≤ length s.bytes) (sym content) (omega (arith, within, long told well)) in
        inl (refused.cause (same.tells ∙ told) (ap (λ s. s.ends_well) content ∙ well) there (quiet_from same.faults rises quiet));
  }
    where
      has : IsTrue (tells_of old) → HasBytes (payload_of mid) past
      has told = record { len = 8 + behind; plain = ap (λ s. plain_len (length s.bytes)) (same.payload told) ∙ sized told; fits = within }

  -- counting from a later state
  pub count-later : (old mid new : StreamReader S R suite read) (e : RecordError) → SamePayload old mid → faults_of mid ≤ faults_of new →
      RefusesCount mid new e → RefusesCount old new e
  count-later old mid new e same rises refused = record {
    known = refused.known;
    device = λ is. omega (arith, same.faults, refused.device is);
    stands = λ told is len plain.
        none-before old mid len same told (refused.stands (same.tells ∙ told) is len
        (ap (λ s. plain_len (length s.bytes)) (same.payload told) ∙ plain));
    damaged = λ told well is holds.
        let content = same.content told in
        refused.damaged (same.tells ∙ told) (ap (λ s. s.ends_well) content ∙ well) is (subst (λ s. HoldsRecords s.bytes) (sym content) holds);
    cause = λ told well quiet. refused.cause (same.tells ∙ told) (ap (λ s. s.ends_well) (same.content told) ∙ well)
        (quiet_from same.faults rises quiet);
  }

  -- the bytes of a record whose ends are good can't be missing
  pub record-refused : (old mid new : StreamReader S R suite read) (count total i end : ℕ) (e : RecordError) → SamePayload old mid
      → faults_of mid ≤ faults_of new →
      IsCounted count total old → end ≤ total → RefusesRange (8 + 8 * count + end) mid new e → RefusesRecord count total i old new e
  record-refused old mid new count total i end e same rises counted inside refused = record {
    missing = λ is. absurd (refused.known is);
    device = λ is. omega (arith, same.faults, refused.device is);
    damaged = λ told is. absurd (refused.damaged (same.tells ∙ told) (has told) is);
    cause = λ told well quiet.
        let content = same.content told in
        let there : 8 + 8 * count + end ≤ length (content_of mid).bytes =
        subst (λ s. 8 + 8 * count + end ≤ length s.bytes) (sym content) (omega (arith, inside, (counted.holds told well).whole)) in
        inl (refused.cause (same.tells ∙ told) (ap (λ s. s.ends_well) content ∙ well) there (quiet_from same.faults rises quiet));
  }
    where
      has : IsTrue (tells_of old) → HasBytes (payload_of mid) (8 + 8 * count + end)
      has told = record {
        len = 8 + 8 * count + total;
        plain = ap (λ s. plain_len (length s.bytes)) (same.payload told) ∙ counted.sized told;
        fits = omega (arith, inside);
      }
