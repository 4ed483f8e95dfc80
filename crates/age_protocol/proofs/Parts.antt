-- A part of a file's plaintext.
use Rattle.std.specs.Prelude.{◌≡◌, ◌≢◌, ◌⊎◌, ℕ, ◌≤◌, ◌<◌, Bool, true, false, List, [], length, take, drop, IsTrue, Result, OnOk, OnErr, Option, Some, None, Ok, Err, refl, ◌^◌, nat_le, if◌then◌else◌}
use Rattle.std.proofs.Common.{◌∙◌, sym, ap, subst, inl, inr, arith}
use Rattle.age_error.specs.DecryptErrors.{OutOfMemory, decrypt_refusal}
use Rattle.age_error.specs.declared.decrypt.DecryptError.{DecryptError}
use Rattle.age_error.specs.declared.io.Error.{Error}
use Rattle.age_error.specs.declared.io.Error.TheVariants as io
use Rattle.age_io.specs.Stretch.{Stretch, whole}
use Rattle.age_io.specs.Reading.{IsQuiet}
use Rattle.age_io.specs.Cursor.{IsOutside, moved_to}
use Rattle.age_io.specs.Writing.{OrMemory, Retried}
use Rattle.std.proofs.lemmas.Bool.Decides.{nat_tests}
use Rattle.age_v1.specs.Stanza.{StanzaValue}
use Rattle.age_v1.specs.Identities.{UnwrapAnswer, IsFileFor}
use Rattle.age_protocol.proofs.Accepted.{memory_or_not}
use Rattle.age_protocol.proofs.Texts.{under_mac}
use Rattle.age_io.specs.Copying.{AppendsFront, AppendsSome}
use Rattle.age_error.specs.declared.io.SeekFrom.TheVariants.{Start}
use Rattle.std.proofs.lemmas.Bool.{leb-false}
use Rattle.age_format.specs.HeaderV1.{HeaderValue}
use Rattle.age_v1.specs.PayloadTargets.{in_length, sought_in}
use Rattle.age_v1.specs.Payload.{Seal, plain_len}
use Rattle.age_protocol.specs.Parts.{AppendsPart, AppendsOf, EndsBefore}
use Rattle.age_error.specs.FileErrors.{IsPastEnd}
use Rattle.age_error.specs.declared.file.FileError.{FileError}
use Rattle.age_error.specs.declared.file.FileError.TheVariants.{Io, Decrypt}

-- ---- what is appended

past_or_memory : (e : Error) → (e ≢ io.OutOfMemory → e ≡ io.PastEnd) → (e ≡ io.OutOfMemory) ⊎ (e ≢ io.OutOfMemory) → IsPastEnd (Io e)
past_or_memory e why (inl is) = inr is
past_or_memory e why (inr other) = inl (why other)

module _ {W T : Type 0} (appended : W → List ℕ → W → Type 0) (refuses : W → ℕ → Error → Type 0) (Quiet : Type 0) (place count : ℕ)
    (plain : List ℕ) where
  -- a refusal before anything was appended
  pub refused_before : (w : W) (e : DecryptError) → appended w [] w → (Quiet → decrypt_refusal e ≡ OutOfMemory)
      → AppendsPart {T = T} appended refuses Quiet place count plain w w (Err (Decrypt e))
  refused_before w e none why = record {
    part = tt;
    front = record { front = []; after = take count (drop place plain); joined = refl; out = none };
    opened = why;
    past_end = λ quiet past. (refl, why quiet);
    inside = λ quiet within. tt;
  }

  -- what was appended from a reader of the plaintext
  pub part_done : (content : Stretch) (old new : W) (done : T) → content ≡ whole plain
      → (place ≤ length content.bytes) × appended old (take count (drop place content.bytes)) new
      → AppendsFront appended (take count (drop place content.bytes)) old new
      → (length content.bytes < place → (new ≡ old) × ⊥)
      → AppendsPart appended refuses Quiet place count plain old new (Ok done)
  part_done content old new done is part front past =
      let bytes : content.bytes ≡ plain = ap (λ s. s.bytes) is in
      record {
        part = rw bytes at part;
        front = rw bytes at front;
        opened = λ quiet. tt;
        past_end = λ quiet beyond. absurd ((rw bytes at past) beyond).1;
        inside = λ quiet within. tt;
      }

  pub part_refused : (content : Stretch) (f g : ℕ) (old new : W) (e : Error) → content ≡ whole plain → (Quiet → IsQuiet f g)
      → AppendsFront appended (take count (drop place content.bytes)) old new
      → (length content.bytes < place → (new ≡ old) × (e ≢ io.OutOfMemory → IsQuiet f g → e ≡ io.PastEnd))
      → (place ≤ length content.bytes → IsQuiet f g → OrMemory (Retried refuses) old count e)
      → AppendsPart {T = T} appended refuses Quiet place count plain old new (Err (Io e))
  part_refused content f g old new e is still front past why =
      let bytes : content.bytes ≡ plain = ap (λ s. s.bytes) is in
      record {
        part = tt;
        front = rw bytes at front;
        opened = λ quiet. tt;
        past_end = λ quiet beyond.
            let both = (rw bytes at past) beyond in
            (both.0, past_or_memory e (λ other. both.1 other (still quiet)) (memory_or_not e));
        inside = λ quiet within. elim ((rw bytes at why) within (still quiet)) [ inl memory ↦ inl memory | inr writer ↦ inr (count, writer) ];
      }

-- ---- a target from the start

start_past : (place len : ℕ) → len < place → moved_to (Some place) len ≡ Err io.PastEnd
start_past place len past = grind (arith, nat_tests)

-- a place after the end that is refused as a cursor refuses it
pub refused_past : (place len : ℕ) (e : Error) → len < place → moved_to (Some place) len ≡ Err e → e ≡ io.PastEnd
refused_past place len e past is =
    let same : ◌≡◌ {A = Result ℕ Error} (Err io.PastEnd) (Err e) = sym (start_past place len past) ∙ is in
    Prim.cc

-- a place up to the end isn't refused
pub never_refused : (place len : ℕ) (e : Error) → place ≤ len → moved_to (Some place) len ≡ Err e → ⊥
never_refused place len e within is = grind (arith, nat_tests)

-- what holds of a success and of a refusal holds
pub either_way : {T E P : Type 0} (r : Result T E) → OnOk r P → OnErr r P → P
either_way (Ok x) done refused = done
either_way (Err e) done refused = refused

-- and that isn't moved to
pub never_past : (place len n : ℕ) → len < place → moved_to (Some place) len ≡ Ok n → ⊥
never_past place len n past is =
    let same : ◌≡◌ {A = Result ℕ Error} (Err io.PastEnd) (Ok n) = sym (start_past place len past) ∙ is in
    absurd (Prim.cc)

pub start_within : (place len n : ℕ) → n ≡ place → moved_to (Some place) len ≡ Ok n → place ≤ len
start_within place len n is moved = grind (arith, nat_tests)

-- ---- files in memory

module _ {W T : Type 0} (appended : W → List ℕ → W → Type 0) (refuses : W → ℕ → Error → Type 0) (place count : ℕ) (plain : List ℕ) where
  -- want of memory before anything was appended
  pub memory_before : (Quiet : Type 0) (w : W) (e : Error) → appended w [] w → (Quiet → e ≡ io.OutOfMemory)
      → AppendsPart {T = T} appended refuses Quiet place count plain w w (Err (Io e))
  memory_before Quiet w e none why = record {
    part = tt;
    front = record { front = []; after = take count (drop place plain); joined = refl; out = none };
    opened = λ quiet. tt;
    past_end = λ quiet past. (refl, inr (why quiet));
    inside = λ quiet within. inl (why quiet);
  }

  -- another reason why the device doesn't fail
  pub quiet_by : (Quiet Calm : Type 0) (old new : W) (result : Result T FileError) → (Calm → Quiet)
      → AppendsPart appended refuses Quiet place count plain old new result → AppendsPart appended refuses Calm place count plain old new result
  quiet_by Quiet Calm old new result by done = record {
    part = done.part;
    front = done.front;
    opened = λ calm. done.opened (by calm);
    past_end = λ calm past. done.past_end (by calm) past;
    inside = λ calm within. done.inside (by calm) within;
  }

want_alone : (e : Error) (well : Bool) → IsTrue well → (e ≢ io.OutOfMemory → well ≡ false) → (e ≡ io.OutOfMemory) ⊎ (e ≢ io.OutOfMemory)
    → e ≡ io.OutOfMemory
want_alone e well is cause (inl memory) = memory
want_alone e well is cause (inr other) =
    let badly : true ≡ false = sym is ∙ cause other in
    absurd (Prim.cc)

-- before a clean end only memory is refused
pub memory_only : (e : Error) (Quiet : Type 0) (well : Bool) → IsTrue well → (e ≢ io.OutOfMemory → Quiet → well ≡ false) → Quiet → e ≡ io.OutOfMemory
memory_only e Quiet well is cause quiet = want_alone e well is (λ other. cause other quiet) (memory_or_not e)

pub file_for : (seal_of : Seal) (answers : List StanzaValue → UnwrapAnswer → Type 0) (plain text other : List ℕ) → text ≡ other
    → IsFileFor seal_of answers plain text → IsFileFor seal_of answers plain other
file_for seal_of answers plain text other is for = subst (λ (l : List ℕ). IsFileFor seal_of answers plain l) is for

-- ---- why it is refused

by_place : (within : Bool) (place : ℕ) (e : Error) → ◌≡◌ {A = Result ℕ Error} (if within then Ok place else Err io.PastEnd) (Err e)
    → (within ≡ false) × (e ≡ io.PastEnd)
by_place true place e is = absurd (Prim.cc)
by_place false place e is = (refl, Prim.cc)

by_limit : (fits : Bool) (place len : ℕ) (e : Error) → IsOutside e
    → ◌≡◌ {A = Result ℕ Error} (if fits then moved_to (Some place) len else Err io.TooLong) (Err e) → (e ≡ io.PastEnd) × (len < place)
by_limit true place len e outside is = let (past, same) = by_place (nat_le place len) place e is in (same, leb-false place len past)
by_limit false place len e outside is = let same : io.TooLong ≡ e = Prim.cc in absurd (subst IsOutside (sym same) outside)

by_length : (plain : Option ℕ) (place stood : ℕ) (e : Error) → IsOutside e → in_length plain (Start place) stood ≡ Err e
    → (e ≡ io.PastEnd) × ((len : ℕ) × (plain ≡ Some len) × (len < place))
by_length None place stood e outside is = let same : io.BadEnd ≡ e = Prim.cc in absurd (subst IsOutside (sym same) outside)
by_length (Some len) place stood e outside is =
    let (past, short) = by_limit (nat_le len (2 ^ 60)) place len e outside is in
    (past, (len, refl, short))

-- a seek from the front says that its target is outside only where the payload ends before it
pub ends_before : (sealed : Stretch) (place stood : ℕ) (e : Error) → IsOutside e → sought_in (Start place) stood (length sealed.bytes) ≡ Err e
    → (e ≡ io.PastEnd) × EndsBefore place sealed
ends_before sealed place stood e outside is =
    let found = by_length (plain_len (length sealed.bytes)) place stood e outside is in
    (found.0, record { len = found.1.0; plain = found.1.1; short = found.1.2 })

-- what holds of what was appended
pub some_holds : {W : Type 0} (appended : W → List ℕ → W → Type 0) (count : ℕ) (Holds More : List ℕ → Type 0) (old new : W)
    → ((out : List ℕ) → Holds out → More out) → AppendsSome appended count Holds old new → AppendsSome appended count More old new
some_holds appended count Holds More old new wider some =
    record { out = some.out; most = some.most; holds = wider some.out some.holds; done = some.done }

pub of_holds : {W : Type 0} (begins : HeaderValue → List ℕ → Stretch → Type 0) (gives : List ℕ → List StanzaValue → Type 0)
    (appended : W → List ℕ → W → Type 0) (count : ℕ)
    (Holds More : List ℕ → Stretch → List ℕ → Type 0) (old new : W)
    → ((key : List ℕ) (sealed : Stretch) (out : List ℕ) → Holds key sealed out → More key sealed out)
    → AppendsOf begins gives appended count Holds old new → AppendsOf begins gives appended count More old new
of_holds begins gives appended count Holds More old new wider some =
    under_mac begins begins (λ h nonce left begun. begun) gives gives _ _ (λ key stanzas given. given)
    (λ key sealed. some_holds appended count (Holds key sealed) (More key sealed) old new (wider key sealed)) some
