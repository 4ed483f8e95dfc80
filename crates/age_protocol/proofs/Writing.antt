-- From the payload that is written to the file in its form.
use Rattle.std.specs.Prelude.{◌≡◌, ℕ, ◌+◌, ◌^◌, ◌<◌, ◌≤◌, ◌⊎◌, ⊤, Bool, true, false, IsTrue, List, [], ◌++◌, length, Result, Ok, Err}
use Rattle.std.proofs.Common.{arith, refl, sym, ap, subst, inl, inr, ◌∙◌, add-zero}
use Rattle.std.proofs.lemmas.Bool.{cases_Bool, true≢false}
use Rattle.std.proofs.lemmas.List.{append-nil}
use Rattle.age_error.specs.Refusals.{IsDevice}
use Rattle.age_error.specs.declared.io.Error.{Error}
use Rattle.age_error.specs.declared.io.Error.TheVariants.{Device, Failed, TooLong}
use Rattle.age_error.specs.declared.io.ErrorKind.TheVariants.{Interrupted}
use Rattle.age_io.specs.Copying.{AppendsFront, CopyRefuses, RefusesAll}
use Rattle.age_io.specs.CopyingLemmas.{front-later, front-more, front-none, front-still, front-take}
use Rattle.age_io.specs.Reading.{IsQuiet, TriedAgain}
use Rattle.age_io.specs.Writing.{Flushes, HandsOn, Narrows, OrMemory, Retried}
use Rattle.age_io.specs.WritingLemmas.{hands-on-narrows, retried-plain}
use Rattle.age_io.specs.declared.traits.Read.{Ghosts}
use Rattle.age_io.specs.declared.traits.Write.{Ghosts as WriteGhosts}
use Rattle.age_armor.specs.WriterCalls.{ClosesText, WrapsOutput}
use Rattle.age_armor.specs.Writing.{Appended, Refused as ArmorRefused, SendsFrontOfText, in_armor, inner_of}
use Rattle.age_armor.specs.WritingLemmas.{handed-back, handed-through}
use Rattle.age_armor.specs.declared.writer.ArmoredWriter.{ArmoredWriter}
use Rattle.age_stream.specs.Sending.{RefusesChunk}
use Rattle.age_stream.specs.Writing.{Appended as StreamAppended, Closes, ClosesPayload, ClosesWriter, Refused as StreamRefused, SendsFrontOfPayload, StaysWithin, WasMade, last_seal}
use Rattle.age_stream.specs.WritingLemmas.{Refused-patient, Refused-made}
use Rattle.age_stream.specs.declared.writer.StreamWriter.{StreamWriter}
use Rattle.age_v1.specs.Armor.{text_of}
use Rattle.age_v1.specs.Encrypting.{Prepared}
use Rattle.age_v1.specs.File.{file_front, file_text}
use Rattle.age_v1.specs.Payload.{Seal, payload, payload_key}
use Rattle.age_v1.specs.declared.format.Format.{Format}
use Rattle.age_protocol.specs.PrivateWriting.{EndsText, WritesMade}
use Rattle.age_protocol.specs.Starting.{GivesUp, Starts}
use Rattle.age_protocol.specs.WholeFiles.{RefusesFile, RefusesSomeFile, RefusesWriting}

-- no answer is a failure, so that the writer hasn't failed
pub is-good : (failed : Bool) → (failed ≡ true → ⊥) → failed ≡ false
is-good true not = absurd (not refl)
is-good false not = refl

-- ---- why a file is refused

-- a writer that was flushed
handed-narrows : {W : Type 0} (refuses : W → ℕ → Error → Type 0) (old new : W) → Narrows (Retried refuses) old 0 new → (e : Error) →
    RefusesChunk refuses new e → RefusesChunk refuses old e
handed-narrows refuses old new narrows e (inl memory) = inl memory
handed-narrows refuses old new narrows e (inr h) = inr (hands-on-narrows refuses old new 0 narrows e h)

module _ {W : Type 0} (refuses : W → ℕ → Error → Type 0) (writer : W) where
  -- whatever is written
  pub some-chunk : (told : Type 0) (size : ℕ) (e : Error) → RefusesChunk refuses writer e → RefusesSomeFile refuses writer told size e
  some-chunk told size e h = ((0, inr h), λ _. inr h)

  -- what a writer refuses that may refuse no more than another
  pub file-through : {V : Type 0} (below : V → ℕ → Error → Type 0) (inner : V) (size : ℕ) (e : Error) →
      (RefusesChunk below inner e → RefusesChunk refuses writer e) → RefusesFile below inner size e → RefusesFile refuses writer size e
  file-through below inner size e through (inl long) = inl long
  file-through below inner size e through (inr chunk) = inr (through chunk)

  pub some-through : {V : Type 0} (below : V → ℕ → Error → Type 0) (inner : V) (told : Type 0) (size : ℕ) (e : Error) →
      (RefusesChunk below inner e → RefusesChunk refuses writer e) → RefusesSomeFile below inner told size e
      → RefusesSomeFile refuses writer told size e
  some-through below inner told size e through (some, known) =
      ((some.0, file-through below inner some.0 e through some.1), λ is. file-through below inner size e through (known is))

module _ {R W : Type 0} (read : Ghosts R) (write : WriteGhosts W) (old new : R) (before after : W) where
  -- an input of a writer that refuses, whatever it is given
  pub writing-refused : (e : Error) → RefusesChunk write.refuses before e → (IsDevice e → write.faults before < write.faults after) →
      RefusesWriting read write old new before after e
  writing-refused e why device = record {
    named = inr (some-chunk write.refuses before (IsTrue (read.tells old)) (length (read.rest old).bytes) e why);
    why = λ _ _ _. inr why;
    device = λ _ _ is. inr (device is);
  }

  -- what a writer refuses that may refuse no more than this one
  pub writing-through : {V : Type 0} (below : V → ℕ → Error → Type 0) (first : V) (rose : Type 0) (e : Error) →
      (RefusesChunk below first e → RefusesChunk write.refuses before e) → (rose → write.faults before < write.faults after) →
      TriedAgain read.refuses old e ⊎ RefusesSomeFile below first (IsTrue (read.tells old)) (length (read.rest old).bytes) e →
      (IsTrue (read.tells old) → IsTrue (read.rest old).ends_well → IsQuiet (read.faults old) (read.faults new) →
      RefusesFile below first (length (read.rest old).bytes) e) →
      (IsTrue (read.tells old) → IsTrue (write.tells before) → IsDevice e → (read.faults old < read.faults new) ⊎ rose) →
      RefusesWriting read write old new before after e
  writing-through below first rose e through rises named why device = record {
    named = elim named [
      | inl reads ↦ inl reads
      | inr some ↦ inr (some-through write.refuses before below first (IsTrue (read.tells old)) (length (read.rest old).bytes) e through some)
    ];
    why = λ told well quiet. file-through write.refuses before below first (length (read.rest old).bytes) e through (why told well quiet);
    device = λ read_told told is. elim (device read_told told is) [
      | inl reads ↦ inl reads
      | inr writes ↦ inr (rises writes)
    ];
  }

module _ {R W : Type 0} (read : Ghosts R) (write : WriteGhosts W) (form : List ℕ → List ℕ) (old new : R) (before : W) where
  -- nothing was written
  pub made-refused : ((w : W) → write.appended w [] w) → (e : Error) → RefusesChunk write.refuses before e → (IsDevice e → ⊥) →
      WritesMade read write form old new before (before, Err e)
  made-refused nothing e why plain = record {
    all = λ _ _. tt;
    front = λ _ _. front-none write.appended nothing _ before;
    same_tells = tt;
    no_fewer_faults = tt;
    refused = writing-refused read write old new before before e why (λ is. absurd (plain is));
    narrows = tt;
  }

  -- all was, and the writer flushed
  pub made-flushed : ((a b c : W) (x y : List ℕ) → write.appended a x b → write.appended b y c → write.appended a (x ++ y) c) → (between after : W) →
      WritesMade read write form old new before (between, Ok tt) → (result : Result ⊤ Error) →
      Flushes write.tells write.faults (Retried write.refuses) write.appended between after result
      → WritesMade read write form old new before (after, result)
  made-flushed joins between after w (Ok x) flushed = record {
    all = λ read_told told.
        let (well, within, out) = w.all read_told told in
        (well, within, rw append-nil at (joins before between after _ [] out (flushed.nothing (w.same_tells ∙ told))));
    front = λ read_told told. front-still write.appended joins _ before between after (w.front read_told told)
        (flushed.nothing (w.same_tells ∙ told));
    same_tells = flushed.same_tells ∙ w.same_tells;
    no_fewer_faults = omega (arith, w.no_fewer_faults, flushed.no_fewer_faults);
    refused = tt;
    narrows = λ e h. w.narrows e (handed-narrows write.refuses between after flushed.narrows e h);
  }
  made-flushed joins between after w (Err e) flushed = record {
    all = λ _ _. tt;
    front = λ read_told told. front-still write.appended joins _ before between after (w.front read_told told)
        (flushed.nothing (w.same_tells ∙ told));
    same_tells = tt;
    no_fewer_faults = tt;
    refused =
        let some = w.narrows e (inr (0, flushed.why)) in
        record {
          named = inr some;
          why = λ read_told _ _. some.1 read_told;
          device = λ _ _ is. inr (omega (arith, w.no_fewer_faults, flushed.device is));
        };
    narrows = tt;
  }

-- ---- the payload

module _ {S W : Type 0} (refuses : W → ℕ → Error → Type 0) (key : List ℕ) (first : W) (stream : StreamWriter S W)
    (made : WasMade key first stream) where
  stream-refused : (n : ℕ) (e : Error) → Retried (StreamRefused refuses) stream n e → RefusesFile refuses first n e
  stream-refused n e h = Refused-made refuses key first stream n e made
      (retried-plain (StreamRefused refuses) stream n e (λ is. Refused-patient refuses stream n (Device Interrupted) is tt) h)

  -- while the plaintext is copied
  pub copy-refused : (n : ℕ) (e : Error) → OrMemory (Retried (StreamRefused refuses)) stream n e → RefusesFile refuses first n e
  copy-refused n e (inl memory) = inr (inl memory)
  copy-refused n e (inr h) = stream-refused n e h

  -- the same of every reader
  pub copy-named : (reads : Error → Type 0) (told : Type 0) (size : ℕ) (e : Error) →
      CopyRefuses reads (RefusesAll (StreamRefused refuses) stream told size) e ⊎ ((e ≡ TooLong) × (told → ⊥)) →
      reads e ⊎ RefusesSomeFile refuses first told size e
  copy-named reads told size e (inl (inl memory)) = inr (some-chunk refuses first told size e (inl memory))
  copy-named reads told size e (inl (inr (inl why))) = inl why
  copy-named reads told size e (inl (inr (inr (some, known)))) =
      inr ((some.0, stream-refused some.0 e some.1), λ is. stream-refused size e (known is))
  copy-named reads told size e (inr (long, never)) = inr ((2 ^ 60 + 1, inl (long, omega arith)), λ is. absurd (never is))

  -- after it was
  later-refused : (later : StreamWriter S W) (n : ℕ) → Narrows (Retried (StreamRefused refuses)) stream n later → (e : Error) →
      StreamRefused refuses later 0 e → RefusesFile refuses first n e
  later-refused later n narrows e h =
      let again : Retried (StreamRefused refuses) stream (n + 0) e = narrows 0 e (inl (Refused-patient refuses later 0 e h, h)) in
      stream-refused n e (subst (λ k. Retried (StreamRefused refuses) stream k e) (add-zero n) again)

  pub later-some : (told : Type 0) (size : ℕ) (later : StreamWriter S W)
      → (n : ℕ) × (told → n ≡ size) × Narrows (Retried (StreamRefused refuses)) stream n later →
      (e : Error) → StreamRefused refuses later 0 e → RefusesSomeFile refuses first told size e
  later-some told size later (n, joined, narrows) e h =
      let some = later-refused later n narrows e h in
      ((n, some), λ is. subst (λ k. RefusesFile refuses first k e) (joined is) some)

module _ {R S W : Type 0} (seal_of : Seal) (read : Ghosts R) (write : WriteGhosts W) (old new : R) (key : List ℕ) (first : W)
    (stream : StreamWriter S W)
    (made : WasMade key first stream) where
  told-above : IsTrue (write.tells first) → IsTrue (write.tells stream.inner)
  told-above told = ap (λ w. write.tells w) made.same_inner ∙ told

  -- copying was refused
  pub copy-cut : (later : StreamWriter S W) (e : Error) → SendsFrontOfPayload {S = S} seal_of write.appended (StreamAppended seal_of write.appended) →
      (IsTrue (read.tells old) → IsTrue (write.tells stream.inner)
      → AppendsFront (StreamAppended seal_of write.appended) (read.rest old).bytes stream later) →
      (IsTrue (read.tells old) → IsTrue (read.rest old).ends_well → IsQuiet (read.faults old) (read.faults new) →
      OrMemory (Retried (StreamRefused write.refuses)) stream (length (read.rest old).bytes) e) →
      CopyRefuses (TriedAgain read.refuses old)
      (RefusesAll (StreamRefused write.refuses) stream (IsTrue (read.tells old)) (length (read.rest old).bytes)) e
      ⊎ ((e ≡ TooLong) × (IsTrue (read.tells old) → ⊥)) →
      (IsDevice e → (read.faults old < read.faults new) ⊎ (write.faults stream.inner < write.faults later.inner)) →
      WritesMade read write (payload seal_of key) old new first (later.inner, Err e)
  copy-cut later e law front why named device = record {
    all = λ _ _. tt;
    front = λ read_told told.
        let f = front read_told (told-above told) in
        subst (λ l. AppendsFront write.appended (payload seal_of key l) first later.inner) (sym f.joined)
        (law stream later key f.front f.after first made f.out);
    same_tells = tt;
    no_fewer_faults = tt;
    refused = record {
      named = copy-named write.refuses key first stream made (TriedAgain read.refuses old) _ _ e named;
      why = λ read_told well quiet. copy-refused write.refuses key first stream made _ e (why read_told well quiet);
      device = λ _ _ is. subst (λ w. (read.faults old < read.faults new) ⊎ (write.faults w < write.faults later.inner)) made.same_inner (device is);
    };
    narrows = tt;
  }

  module _ (later done : StreamWriter S W) (same_tells : write.tells later.inner ≡ write.tells stream.inner)
      (no_fewer_faults : write.faults stream.inner ≤ write.faults later.inner)
      (took : IsTrue (read.tells old) → IsTrue (write.tells stream.inner)
      → IsTrue (read.rest old).ends_well × StreamAppended seal_of write.appended stream (read.rest old).bytes later)
      (narrows : (n : ℕ) × (IsTrue (read.tells old) → n ≡ length (read.rest old).bytes)
      × Narrows (Retried (StreamRefused write.refuses)) stream n later) where
    some-later : (e : Error) → StreamRefused write.refuses later 0 e →
        RefusesSomeFile write.refuses first (IsTrue (read.tells old)) (length (read.rest old).bytes) e
    some-later e h = later-some write.refuses key first stream made _ _ later narrows e h

    first-faults : write.faults first ≤ write.faults later.inner
    first-faults = subst (λ w. write.faults w ≤ write.faults later.inner) made.same_inner no_fewer_faults

    -- what a failed writer answers is no device's
    close-device : (e : Error) → ClosesWriter {T = ⊤} write later done (Err e) → IsDevice e → write.faults first < write.faults done.inner
    close-device e closes is = elim (cases_Bool later.failed) [
      | inl failed ↦ let same = (closes.failed failed).0 in let named : e ≡ Failed = Prim.cc in absurd (subst IsDevice named is)
      | inr good ↦ omega (arith, first-faults, (closes.inner good).device is)
    ]

    -- all was copied, and the writer closed
    pub payload-closed : (result : Result ⊤ Error) → ClosesPayload {S = S} seal_of write.appended (StreamAppended seal_of write.appended) →
        (IsTrue (write.tells later.inner) → Closes seal_of write.appended (StreamAppended seal_of write.appended) later done result) →
        StaysWithin (StreamAppended seal_of write.appended) later result → ClosesWriter write later done result →
        (IsTrue (write.tells later.inner) → AppendsFront write.appended (last_seal seal_of later) later.inner done.inner) →
        WritesMade read write (payload seal_of key) old new first (done.inner, result)
    payload-closed (Ok x) law closes within ends front = record {
      all = λ read_told told.
          let (well, out) = took read_told (told-above told) in (
            well,
            within stream key (read.rest old).bytes first made out,
            closes (same_tells ∙ told-above told) stream key
                (read.rest old).bytes first made out,
          );
      front = λ read_told told.
          let (well, out) = took read_told (told-above told) in
          law stream later key (read.rest old).bytes first done.inner made out (λ is. ap (λ s. s.inner) (ends.failed is).1)
          (front (same_tells ∙ told-above told));
      same_tells = ends.hands_back.same_tells ∙ same_tells ∙ ap (λ w. write.tells w) made.same_inner;
      no_fewer_faults = omega (arith, first-faults, ends.hands_back.no_fewer_faults);
      refused = tt;
      narrows = λ e h. some-later e (inr (is-good later.failed (λ is. let never = (ends.failed is).0 in Prim.cc), inr (ends.hands_back.narrows e h)));
    }
    payload-closed (Err e) law closes within ends front = record {
      all = λ _ _. tt;
      front = λ read_told told.
          let (well, out) = took read_told (told-above told) in
          law stream later key (read.rest old).bytes first done.inner made out (λ is. ap (λ s. s.inner) (ends.failed is).1)
          (front (same_tells ∙ told-above told));
      same_tells = tt;
      no_fewer_faults = tt;
      refused =
          let some = some-later e ends.why in
          record { named = inr some; why = λ read_told _ _. some.1 read_told; device = λ _ _ is. inr (close-device e ends is) };
      narrows = tt;
    }

-- ---- the file

-- after the text before the payload was written
pub front-narrows : {W : Type 0} (refuses : W → ℕ → Error → Type 0) (old new : W) (m : ℕ) → Narrows (OrMemory (Retried refuses)) old m new
    → (e : Error) →
    RefusesChunk refuses new e → RefusesChunk refuses old e
front-narrows refuses old new m narrows e (inl memory) = inl memory
front-narrows refuses old new m narrows e (inr handed) = elim (narrows handed.0 e (inr handed.1)) [
  | inl memory ↦ inl memory
  | inr h ↦ inr (m + handed.0, h)
]

-- while it was written
front-refused : {W : Type 0} (refuses : W → ℕ → Error → Type 0) (writer : W) (n : ℕ) (e : Error) → OrMemory (Retried refuses) writer n e →
    RefusesChunk refuses writer e
front-refused refuses writer n e (inl memory) = inl memory
front-refused refuses writer n e (inr h) = inr (n, h)

module _ {R W : Type 0} (seal_of : Seal) (read : Ghosts R) (write : WriteGhosts W)
    (joins : (a b c : W) (x y : List ℕ) → write.appended a x b → write.appended b y c → write.appended a (x ++ y) c) (file : Prepared)
    (old new : R) (output : W) where
  -- the front was refused
  pub front-made : (last : W) (e : Error) → GivesUp write.tells write.faults write.refuses write.appended file output last e →
      WritesMade read write (λ plain. file_text seal_of file.file_key file.stanzas file.nonce plain) old new output (last, Err e)
  unfolding file_text
  front-made last e up = record {
    all = λ _ _. tt;
    front = λ _ told.
        let (n, most, out) = up.takes_front told in
        front-more write.appended (file_front file.file_key file.stanzas file.nonce)
        (payload seal_of (payload_key file.file_key file.nonce) (read.rest old).bytes) output last
        (front-take write.appended n (file_front file.file_key file.stanzas file.nonce) output last out);
    same_tells = tt;
    no_fewer_faults = tt;
    refused = writing-refused read write old new output last e (front-refused write.refuses output _ e up.why) up.device;
    narrows = tt;
  }

  -- the payload was written after it, or refused
  pub file-made : {S : Type 0} (stream : StreamWriter S W)
      (starts : Starts write.tells write.faults write.refuses write.appended file output stream) (result : W × Result ⊤ Error) →
      WritesMade read write (λ plain. payload seal_of (payload_key file.file_key file.nonce) plain) old new starts.inner result →
      WritesMade read write (λ plain. file_text seal_of file.file_key file.stanzas file.nonce plain) old new output result
  unfolding file_text
  file-made stream starts (last, Ok x) w = record {
    all = λ read_told told.
        let (ends, within, out) = w.all read_told (starts.same_tells ∙ told) in
        (ends, within, joins output starts.inner last _ _ (starts.front told) out);
    front = λ read_told told. front-later write.appended joins _ _ output starts.inner last (starts.front told)
        (w.front read_told (starts.same_tells ∙ told));
    same_tells = w.same_tells ∙ starts.same_tells;
    no_fewer_faults = omega (arith, starts.no_fewer_faults, w.no_fewer_faults);
    refused = tt;
    narrows = λ e h. some-through write.refuses output write.refuses starts.inner _ _ e (starts.narrows e) (w.narrows e h);
  }
  file-made stream starts (last, Err e) w = record {
    all = λ _ _. tt;
    front = λ read_told told. front-later write.appended joins _ _ output starts.inner last (starts.front told)
        (w.front read_told (starts.same_tells ∙ told));
    same_tells = tt;
    no_fewer_faults = tt;
    refused = writing-through read write old new output last write.refuses starts.inner (write.faults starts.inner < write.faults last) e
        (starts.narrows e)
        (λ rose. omega (arith, starts.no_fewer_faults, rose)) w.refused.named w.refused.why
        (λ read_told told. w.refused.device read_told (starts.same_tells ∙ told));
    narrows = tt;
  }

-- ---- the file in its form

module _ {R W : Type 0} (read : Ghosts R) (write : WriteGhosts W) (form : List ℕ → List ℕ) (old new : R) (format : Format) (writer : W) where
  -- the text wasn't begun
  pub text-refused : (back : W) (e : Error)
      → (IsTrue (write.tells writer) → (bytes : List ℕ) → AppendsFront write.appended (text_of format bytes) writer back) →
      RefusesChunk write.refuses writer e → (IsDevice e → write.faults writer < write.faults back) →
      WritesMade read write (λ plain. text_of format (form plain)) old new writer (back, Err e)
  text-refused back e front why device = record {
    all = λ _ _. tt;
    front = λ _ told. front told (form (read.rest old).bytes);
    same_tells = tt;
    no_fewer_faults = tt;
    refused = writing-refused read write old new writer back e why device;
    narrows = tt;
  }

  module _ (armored : ArmoredWriter W) (begun : WrapsOutput write writer format (Ok armored))
      (law : SendsFrontOfText write.appended (Appended write.appended)) where
    through : (e : Error) → RefusesChunk (ArmorRefused write.refuses) armored e → RefusesChunk write.refuses writer e
    through e (inl memory) = inl memory
    through e (inr h) = inr (handed-through write.refuses (in_armor format) writer armored begun.narrows e h)

    -- the file wasn't written whole
    pub text-cut : (last : ArmoredWriter W) (e : Error) →
        (IsTrue (read.tells old) → IsTrue (write.tells (inner_of armored))
        → AppendsFront (Appended write.appended) (form (read.rest old).bytes) armored last) →
        TriedAgain read.refuses old e
        ⊎ RefusesSomeFile (ArmorRefused write.refuses) armored (IsTrue (read.tells old)) (length (read.rest old).bytes) e →
        (IsTrue (read.tells old) → IsTrue (read.rest old).ends_well → IsQuiet (read.faults old) (read.faults new) →
        RefusesFile (ArmorRefused write.refuses) armored (length (read.rest old).bytes) e) →
        (IsTrue (read.tells old) → IsTrue (write.tells (inner_of armored)) → IsDevice e →
        (read.faults old < read.faults new) ⊎ (write.faults (inner_of armored) < write.faults (inner_of last))) →
        WritesMade read write (λ plain. text_of format (form plain)) old new writer (inner_of last, Err e)
    text-cut last e front named why device = record {
      all = λ _ _. tt;
      front = λ read_told told.
          let f = front read_told (begun.same_tells ∙ told) in
          subst (λ l. AppendsFront write.appended (text_of format l) writer (inner_of last)) (sym f.joined)
          (law armored last format f.front f.after writer (begun.made told) f.out);
      same_tells = tt;
      no_fewer_faults = tt;
      refused = writing-through read write old new writer (inner_of last) (ArmorRefused write.refuses) armored
          (write.faults (inner_of armored) < write.faults (inner_of last)) e (through e)
          (λ rose. omega (arith, begun.no_fewer_faults, rose)) named why
          (λ read_told told. device read_told (begun.same_tells ∙ told));
      narrows = tt;
    }

    module _ (last : ArmoredWriter W) (same_tells : write.tells (inner_of last) ≡ write.tells (inner_of armored))
        (no_fewer_faults : write.faults (inner_of armored) ≤ write.faults (inner_of last))
        (took : IsTrue (read.tells old) → IsTrue (write.tells (inner_of armored)) →
        IsTrue (read.rest old).ends_well × (length (read.rest old).bytes ≤ 2 ^ 60)
        × Appended write.appended armored (form (read.rest old).bytes) last)
        (narrows : (e : Error) → RefusesChunk (ArmorRefused write.refuses) last e →
        RefusesSomeFile (ArmorRefused write.refuses) armored (IsTrue (read.tells old)) (length (read.rest old).bytes) e) where
      -- what is refused once the file was written
      ended-some : (e : Error) → HandsOn (ArmorRefused write.refuses) last e →
          RefusesSomeFile write.refuses writer (IsTrue (read.tells old)) (length (read.rest old).bytes) e
      ended-some e h = some-through write.refuses writer (ArmorRefused write.refuses) armored _ _ e (through e) (narrows e (inr h))

      -- whatever ending the text came to
      ended-front : (result : W × Result ⊤ Error) → EndsText write last result → IsTrue (read.tells old) → IsTrue (write.tells writer) →
          AppendsFront write.appended (text_of format (form (read.rest old).bytes)) writer result.0
      ended-front result ended read_told told =
          let (ends, within, out) = took read_told (begun.same_tells ∙ told) in
          elim (cases_Bool last.failed) [
            | inl failed ↦ subst (λ w. AppendsFront write.appended (text_of format (form (read.rest old).bytes)) writer w) (sym (ended.failed failed))
                (subst (λ l. AppendsFront write.appended (text_of format l) writer (inner_of last)) (append-nil (form (read.rest old).bytes))
                (law armored last format (form (read.rest old).bytes) [] writer (begun.made told) out))
            | inr good ↦ ended.front (same_tells ∙ begun.same_tells ∙ told) good armored format (form (read.rest old).bytes) writer
                (begun.made told) out
          ]

      pub text-made : (result : W × Result ⊤ Error) → EndsText write last result
          → WritesMade read write (λ plain. text_of format (form plain)) old new writer result
      text-made (out, Ok x) ended = record {
        all = λ read_told told.
            let (ends, within, taken) = took read_told (begun.same_tells ∙ told) in (
              ends,
              within,
              ended.all (same_tells ∙ begun.same_tells ∙ told) armored format (form (read.rest old).bytes) writer
                  (begun.made told) taken,
            );
        front = ended-front (out, Ok x) ended;
        same_tells = ended.same_tells ∙ same_tells ∙ begun.same_tells;
        no_fewer_faults = omega (arith, begun.no_fewer_faults, no_fewer_faults, ended.no_fewer_faults);
        refused = tt;
        narrows = λ e h. elim h [
          | inl memory ↦ some-chunk write.refuses writer (IsTrue (read.tells old)) _ e (inl memory)
          | inr handed ↦ ended-some e (ended.narrows e handed)
        ];
      }
      text-made (out, Err e) ended = record {
        all = λ _ _. tt;
        front = ended-front (out, Err e) ended;
        same_tells = tt;
        no_fewer_faults = tt;
        refused =
            let some = ended-some e ended.why in
            record {
              named = inr some;
              why = λ read_told _ _. some.1 read_told;
              device = λ _ _ is. inr (omega (arith, begun.no_fewer_faults, no_fewer_faults, ended.device is));
            };
        narrows = tt;
      }

-- ---- the end of the text

module _ {W : Type 0} (write : WriteGhosts W) (old new : ArmoredWriter W) where
  -- it wasn't written whole
  pub text-stopped : (e : Error) → ClosesText write old new (Err e) → EndsText write old (new.inner, Err e)
  text-stopped e closed = record {
    all = λ _ _ _ _ _ _ _. tt;
    front = closed.front;
    failed = λ is. ap (λ a. inner_of a) (closed.failed is).1;
    same_tells = tt;
    no_fewer_faults = tt;
    why = (0, inl (closed.patient, closed.why));
    device = closed.device;
    narrows = tt;
  }

  module _ (closed : ClosesText write old new (Ok tt)) where
    good-before : old.failed ≡ false
    good-before = is-good old.failed (λ is. let never = (closed.failed is).0 in Prim.cc)

    handed : (e : Error) → HandsOn write.refuses new.inner e → HandsOn (ArmorRefused write.refuses) old e
    handed e h = handed-back write.refuses old e good-before (closed.narrows e h)

    -- it was, and the writer below was flushed
    pub text-flushed : (joins : (a b c : W) (x y : List ℕ) → write.appended a x b → write.appended b y c → write.appended a (x ++ y) c) (out : W)
        (result : Result ⊤ Error) →
        Flushes write.tells write.faults (Retried write.refuses) write.appended new.inner out result → EndsText write old (out, result)
    text-flushed joins out (Ok x) flushed = record {
      all = λ told start format bytes first made took.
          rw append-nil at (joins first new.inner out (text_of format bytes) [] (closed.ok told start format bytes first made took)
          (flushed.nothing (closed.same_tells ∙ told)));
      front = λ told good start format bytes first made took. front-still write.appended joins (text_of format bytes) first new.inner out
          (closed.front told good start format bytes first made took) (flushed.nothing (closed.same_tells ∙ told));
      failed = λ is. absurd (true≢false (sym is ∙ good-before));
      same_tells = flushed.same_tells ∙ closed.same_tells;
      no_fewer_faults = omega (arith, closed.no_fewer_faults, flushed.no_fewer_faults);
      why = tt;
      device = tt;
      narrows = λ e h. handed e (hands-on-narrows write.refuses new.inner out 0 flushed.narrows e h);
    }
    text-flushed joins out (Err e) flushed = record {
      all = λ _ _ _ _ _ _ _. tt;
      front = λ told good start format bytes first made took. front-still write.appended joins (text_of format bytes) first new.inner out
          (closed.front told good start format bytes first made took) (flushed.nothing (closed.same_tells ∙ told));
      failed = λ is. absurd (true≢false (sym is ∙ good-before));
      same_tells = tt;
      no_fewer_faults = tt;
      why = handed e (0, flushed.why);
      device = λ is. omega (arith, closed.no_fewer_faults, flushed.device is);
      narrows = tt;
    }
