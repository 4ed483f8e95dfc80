-- What reading a header has taken.
use Rattle.std.proofs.Common.{◌≡◌, ◌≢◌, ℕ, ◌+◌, ◌≤◌, Bool, List, [], ◌∷◌, ◌++◌, length, refl, ◌⊎◌, inl, inr, ap, sym, ◌∙◌, arith, subst, length-append}
use Rattle.std.proofs.lemmas.List.{append-nil, nil_from_length}
use Rattle.std.specs.List.{AllByRecursion}
use Rattle.age_error.specs.declared.io.Error.{Error}
use Rattle.age_error.specs.declared.io.Error.TheVariants as io
use Rattle.age_error.specs.declared.decrypt.DecryptError.TheVariants as decrypt
use Rattle.age_error.specs.DecryptErrors.{IfIoRefusal, decrypt_refusal, decrypt_of_io}
use Rattle.age_io.specs.Stretch.{Stretch}
use Rattle.age_io.specs.Reading.{Delivers, StaysOrFails, IsQuiet, IsShort}
use Rattle.age_io.proofs.Delivering.{Delivers-joined}
use Rattle.age_base64.specs.Base64.{columns}
use Rattle.age_base64.specs.Lines.{line}
use Rattle.age_v1.specs.Stanza.{StanzaValue, IsStanza}
use Rattle.age_v1.specs.HeaderTexts.{AreStanzaTexts, IsHeaderText}
use Rattle.age_v1.specs.Header.{IsHeader, mac_line, version_line}
use Rattle.age_v1.specs.HeaderVerdict.{Verdict, FrontDecides, IsUndecided, IsVerdict}
use Rattle.age_format.specs.ReadingHeader.{TookVerdict, TookFront, RunsOut, RefusesHeader}
use Rattle.age_base64.proofs.Columns.{length-columns}
use Rattle.age_format.proofs.Deciding.{none_shorter, verdict_here}

-- the byte after a front that decides nothing decides
pub took_verdict : {legacy : Bool} (own : Bool) (old middle new : Stretch) (start place end : ℕ) (t : List ℕ) (b : ℕ) (v : Verdict) → own ≡ legacy
    → Delivers t old middle → Delivers (b ∷ []) middle new → place ≡ start + length t → end ≡ place + 1 → IsUndecided own t
    → FrontDecides own (t ++ b ∷ []) v → TookVerdict legacy old new start end (t ++ b ∷ []) v
took_verdict own old middle new start place end t b v same so_far here moved step quiet decides =
    let joined = Delivers-joined t (b ∷ []) old middle new so_far here in
    record {
      delivered = joined;
      moved = omega (arith, moved, step, length-append t (b ∷ []));
      verdict = subst (λ l. IsVerdict l old.bytes (t ++ b ∷ []) v) same (verdict_here own old.bytes t new.bytes b v joined.bytes quiet decides);
    }

-- memory was refused for the byte after a front that decides nothing
pub ran_out_after : {legacy : Bool} (own : Bool) (old middle new : Stretch) (start place end : ℕ) (t : List ℕ) (b : ℕ) → own ≡ legacy
    → Delivers t old middle
    → Delivers (b ∷ []) middle new → place ≡ start + length t → end ≡ place + 1 → IsUndecided own t → RunsOut legacy old new start end
ran_out_after {legacy} own old middle new start place end t b is so_far here moved step quiet = record {
  front = t ++ b ∷ [];
  took = record {
    middle = new;
    delivered = Delivers-joined t (b ∷ []) old middle new so_far here;
    left = inl refl;
    moved = omega (arith, moved, step, length-append t (b ∷ []));
  };
  shortest = λ shorter c more v e k. none_shorter legacy t shorter more b c v (subst (λ l. IsUndecided l t) is quiet) e k;
}

-- want of memory, or any other refusal as it is
memory_or_io : (e : Error) → (e ≡ io.OutOfMemory) ⊎ ((e ≢ io.OutOfMemory) × (decrypt_of_io e ≡ decrypt.Io e))
memory_or_io io.OutOfMemory = inl refl
memory_or_io (io.Device kind) = inr ((λ e. cc), refl)
memory_or_io io.UnexpectedEof = inr ((λ e. cc), refl)
memory_or_io io.WriteZero = inr ((λ e. cc), refl)
memory_or_io io.BeforeStart = inr ((λ e. cc), refl)
memory_or_io io.PastEnd = inr ((λ e. cc), refl)
memory_or_io io.Truncated = inr ((λ e. cc), refl)
memory_or_io io.BadChunk = inr ((λ e. cc), refl)
memory_or_io io.AfterLast = inr ((λ e. cc), refl)
memory_or_io io.LastChunkEmpty = inr ((λ e. cc), refl)
memory_or_io io.BadEnd = inr ((λ e. cc), refl)
memory_or_io io.TooLong = inr ((λ e. cc), refl)
memory_or_io io.LimitExceeded = inr ((λ e. cc), refl)
memory_or_io (io.Armor fault) = inr ((λ e. cc), refl)
memory_or_io (io.NotIdentity line) = inr ((λ e. cc), refl)
memory_or_io io.Failed = inr ((λ e. cc), refl)

-- where no fault came in all, none came at the end
still_quiet : (old_faults faults new_faults : ℕ) → old_faults ≤ faults → faults ≤ new_faults → IsQuiet old_faults new_faults
    → IsQuiet faults new_faults
still_quiet old_faults faults new_faults before after still = record { same = omega (arith, still.same); below = still.below }

-- the reader refused after a front that decides nothing
pub reader_refused : {legacy : Bool} (own : Bool) (old_faults faults new_faults : ℕ) (old middle new : Stretch) (start place end : ℕ) (t : List ℕ)
    (e : Error)
    → own ≡ legacy → Delivers t old middle → StaysOrFails middle new → place ≡ start + length t → end ≡ place → IsUndecided own t
    → old_faults ≤ faults → faults ≤ new_faults → (e ≢ io.OutOfMemory → IsQuiet faults new_faults → IsShort 1 middle e)
    → RefusesHeader legacy old_faults new_faults old new start end (decrypt_refusal (decrypt_of_io e))
reader_refused {legacy} own old_faults faults new_faults old middle new start place end t e is so_far left moved stays undecided before after cause =
    let quiet = subst (λ l. IsUndecided l t) is undecided in
    let took : TookFront old new start end t = record { middle = middle; delivered = so_far; left = left; moved = stays ∙ moved } in
    elim (memory_or_io e) [
      | inl memory ↦ subst (λ x. RefusesHeader legacy old_faults new_faults old new start end (decrypt_refusal (decrypt_of_io x))) (sym memory)
          (record {
            front = t;
            took = took;
            shortest = λ shorter b more v same k. quiet shorter (b ∷ more) v same k;
          })
      | inr (other, same) ↦ subst (λ x. RefusesHeader legacy old_faults new_faults old new start end (decrypt_refusal x)) (sym same) (record {
        front = t;
        took = took;
        undecided = quiet;
        other = other;
        all = λ still.
            let short = cause other (still_quiet old_faults faults new_faults before after still) in
            sym (so_far.bytes ∙ ap (λ xs. t ++ xs) (nil_from_length middle.bytes (omega (arith, short.short))) ∙ append-nil t);
        early = λ still well.
            (cause other (still_quiet old_faults faults new_faults before after still)).early (so_far.end ∙ well);
      })
    ]

-- each text is that of a stanza
each_stanza : (legacy : Bool) (text : List ℕ) (stanzas : List StanzaValue) → AreStanzaTexts legacy text stanzas → AllByRecursion IsStanza stanzas
each_stanza legacy text [] texts = tt
each_stanza legacy text (s ∷ stanzas) texts =
    let (first, rest, same, is, others) = texts in
    (is.stanza, each_stanza legacy rest stanzas others)

-- what a header text says can stand in a header
pub header_of : (legacy : Bool) (text : List ℕ) (stanzas : List StanzaValue) (mac : List ℕ) → IsHeaderText legacy text stanzas mac
    → IsHeader stanzas mac
header_of legacy text stanzas mac h = record { each = each_stanza legacy h.middle stanzas h.texts; some = h.some; is_mac = h.is_mac }

-- a header text ends with what the MAC doesn't cover
pub has_uncovered : (legacy : Bool) (text : List ℕ) (stanzas : List StanzaValue) (mac : List ℕ) → IsHeaderText legacy text stanzas mac
    → 45 ≤ length text
unfolding mac_line
has_uncovered legacy text stanzas mac h =
    let last : List ℕ = line (mac_line mac) in
    let size : length last ≡ 48 = omega (arith, length-append (columns mac) (10 ∷ []), length-columns mac, h.is_mac.len) in
    omega (arith, ap length h.spelled, length-append (line version_line) (h.middle ++ last), length-append h.middle last)

-- a reader's refusal as an error of decryption
pub io_of_error : (Holds : Error → Type 0) (e : Error) → Holds e → IfIoRefusal Holds (decrypt_refusal (decrypt_of_io e))
io_of_error Holds io.OutOfMemory h = tt
io_of_error Holds _ h = h
