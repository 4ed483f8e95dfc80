-- Files from before the standard, carried over.
use Rattle.std.proofs.Common.{None, ◌≡◌, ◌∙◌, refl, sym, ap, subst, inl, inr, ◌⊎◌, ℕ, ◌+◌, List, ◌++◌, take, drop, Some, Result, Ok, Err, IsTrue, append_assoc, []}
use Rattle.std.proofs.lemmas.List.{take-append-drop}
use Rattle.std.specs.Prelude.{IfErr}
use Rattle.age_error.specs.declared.io.Error.{Error}
use Rattle.age_error.specs.declared.io.Error.TheVariants as io
use Rattle.age_error.specs.declared.decrypt.DecryptError.{DecryptError}
use Rattle.age_error.specs.Bytes.{AreBytesOf}
use Rattle.age_error.specs.DecryptErrors.{DecryptRefusal, OutOfMemory, decrypt_refusal, decrypt_of_io}
use Rattle.age_io.specs.declared.traits.Read.{Ghosts as ReadGhosts}
use Rattle.age_io.specs.declared.traits.Write.{Ghosts as WriteGhosts}
use Rattle.age_io.specs.Writing.{HandsOn, Narrows, Retried}
use Rattle.age_io.specs.Reading.{AddsNoReason, IsQuiet}
use Rattle.age_io.specs.Copying.{AppendsFront, CopyRefuses}
use Rattle.age_v1.specs.HeaderTexts.{covered, or_legacy}
use Rattle.age_v1.specs.Header.{covered_text, header_text}
use Rattle.age_format.specs.HeaderV1.{HeaderValue}
use Rattle.age_v1.specs.HeaderMac.{header_mac}
use Rattle.age_format.specs.OldHeader.{OldHeaderValue}
use Rattle.age_v1.specs.Identities.{UnwrapAnswer, Unwraps, decided, FirstThatAnswers, FirstAnswer}
use Rattle.age_v1.specs.Stanza.{StanzaValue}
use Rattle.age_v1.specs.File.{file_front, IsFileOf, file_text}
use Rattle.age_v1.specs.Payload.{payload_key, Seal, payload}
use Rattle.age_protocol.specs.Migrating.{Rewrites, AppendsMigrated, AsksOld, IsOldFileOf, Migrates, RefusesOld, ReadsOldFrontOf}
use Rattle.std.proofs.lemmas.Result.{on_ok_weaker, IfErr-weaker}
use Rattle.age_suite.specs.Mac.{hmac_of}
use Rattle.age_io.proofs.PartCopied.{none-copied}
use Rattle.age_format.proofs.HeaderReading.{header_of}
use Rattle.age_protocol.proofs.Accepted.{ReadsAlone, HasOneVerdict, BeginsAs, IsReadBack, read_back, front_accepted}
use Rattle.age_protocol.specs.declared.migrate.OldFront.{OldFront}

-- A file key was answered, under which the MAC is right, and this text is what stands before the payload.
pub record IsUnder {I R : Type 0} (unwraps : I → List StanzaValue → UnwrapAnswer → I → Type 0) (read : ReadGhosts R) (before later : List I)
    (input after : R)
    (h : OldHeaderValue) (nonce text : List ℕ) : Type 0 where
  pub key : List ℕ
  pub asks : AsksOld unwraps read before later input h nonce after (Some (Ok key))
  pub right : h.mac ≡ header_mac key h.covered
  pub front : text ≡ file_front key h.stanzas nonce

module _ {I R : Type 0} (unwraps : I → List StanzaValue → UnwrapAnswer → I → Type 0) (read : ReadGhosts R) (before later : List I) (input after : R)
    (f : OldFront) (text : List ℕ) (new : HeaderValue) (is : text ≡ header_text new.stanzas new.mac ++ f.nonce)
    (begins : ReadsOldFrontOf read input after (Ok f)) where
  -- so it is once the header was rewritten
  pub is_under : (answer : UnwrapAnswer) → FirstThatAnswers
      (λ identity own next. Unwraps unwraps identity f.header.stanzas own next) before answer later
      → Rewrites (decided answer) f.header (Ok new) → IsUnder unwraps read before later input after f.header f.nonce text
  unfolding file_front
  is_under None first none = absurd none
  is_under (Some (Err own)) first none = absurd none
  is_under (Some (Ok key)) first (inl (wrong, none)) = absurd none
  is_under (Some (Ok key)) first (inr (right, (stanzas, mac))) = record {
    key = key;
    asks = record { same = begins.keeps; narrows = begins.narrows; front = begins.front; first = first };
    right = right;
    front = is ∙ ap (λ s. header_text s new.mac ++ f.nonce) stanzas ∙ ap (λ m. header_text f.header.stanzas m ++ f.nonce) mac;
  }

module _ {W : Type 0} (appended : W → List ℕ → W → Type 0) (front more : List ℕ) (old : W) where
  -- a beginning of the front is one of what follows it too
  pub begun_front : (new : W) (n : ℕ) → appended old (take n front) new → AppendsFront appended (front ++ more) old new
  begun_front new n out = record {
    front = take n front;
    after = drop n front ++ more;
    joined = ap (λ f. f ++ more) (sym (take-append-drop n front)) ∙ append_assoc (take n front) (drop n front) more;
    out = out;
  }

  -- and so is the front with a beginning of that
  pub front_and_begun : ((a b c : W) (x y : List ℕ) → appended a x b → appended b y c → appended a (x ++ y) c)
      → (middle new : W) → appended old front middle → AppendsFront appended more middle new → AppendsFront appended (front ++ more) old new
  front_and_begun joins middle new out then = record {
    front = front ++ then.front;
    after = then.after;
    joined = ap (λ m. front ++ m) then.joined ∙ sym (append_assoc front then.front then.after);
    out = joins old middle new front then.front out then.out;
  }

-- why copying the rest refuses, said of the reader and the writer before all
pub copy_refuses : {R W : Type 0} (reads : R → Error → Type 0) (refuses : W → ℕ → Error → Type 0) (input after : R) (old middle : W) (size : ℕ)
    (Told Here Size : Type 0) (e : Error) → AddsNoReason reads input after → Narrows (Retried refuses) old size middle → (Told → Here)
    → CopyRefuses (reads after) (λ e. HandsOn refuses middle e × (Here → Size)) e ⊎ ((e ≡ io.TooLong) × (Here → ⊥))
    → (e ≡ io.OutOfMemory) ⊎ reads input e ⊎ HandsOn refuses old e ⊎ ((e ≡ io.TooLong) × (Told → ⊥))
copy_refuses reads refuses input after old middle size Told Here Size e fewer narrows here (inl (inl memory)) = inl memory
copy_refuses reads refuses input after old middle size Told Here Size e fewer narrows here (inl (inr (inl tried))) = inr (inl (fewer e tried))
copy_refuses reads refuses input after old middle size Told Here Size e fewer narrows here (inl (inr (inr ((n, writes), most)))) =
    inr (inr (inl (size + n, narrows n e writes)))
copy_refuses reads refuses input after old middle size Told Here Size e fewer narrows here (inr (long, none)) =
    inr (inr (inr (long, λ told. none (here told))))

-- an old file begins with its header and its nonce
pub begins_old : (seal_of : Seal) (file_key : List ℕ) (stanzas : List StanzaValue) (plain bytes : List ℕ)
    (is : IsOldFileOf seal_of file_key stanzas plain bytes)
    → BeginsAs or_legacy is.text stanzas is.mac is.nonce (payload seal_of (payload_key file_key is.nonce) plain) bytes
begins_old seal_of file_key stanzas plain bytes is = record { header = is.header; rule = is.rule; sixteen = is.sixteen; whole = is.whole }

-- what it becomes is a file
pub becomes_file : ((key text : List ℕ) → AreBytesOf 32 (hmac_of key text))
    → (seal_of : Seal) (file_key : List ℕ) (stanzas : List StanzaValue) (plain bytes : List ℕ)
    (is : IsOldFileOf seal_of file_key stanzas plain bytes)
    → IsFileOf seal_of file_key stanzas plain (file_text seal_of file_key stanzas is.nonce plain)
unfolding header_mac
becomes_file mac_bytes seal_of file_key stanzas plain bytes is =
    let header = header_of or_legacy is.text stanzas is.mac is.header in record {
      nonce = is.nonce;
      header = record { each = header.each; some = header.some; is_mac = mac_bytes _ (covered_text stanzas) };
      rule = is.rule;
      sixteen = is.sixteen;
      whole = refl;
    }

module _ {I R W T : Type 0} (alone : ReadsAlone) (one : HasOneVerdict) (mac_bytes : (key text : List ℕ) → AreBytesOf 32 (hmac_of key text))
    (seal_of : Seal)
    (unwraps : I → List StanzaValue → UnwrapAnswer → I → Type 0) (read : ReadGhosts R) (write : WriteGhosts W)
    (nothing : (w : W) → write.appended w [] w)
    (before later : List I) (input last : R) (old new : W) (result : Result T DecryptError)
    (migrates : Migrates unwraps read write before later input last old new result)
    (told : IsTrue (read.tells input)) (well : IsTrue (read.rest input).ends_well) (writer_told : IsTrue (write.tells old))
    (file_key : List ℕ) (stanzas : List StanzaValue) (plain : List ℕ) (is : IsOldFileOf seal_of file_key stanzas plain (read.rest input).bytes)
    (for : (answer : UnwrapAnswer) → FirstAnswer unwraps before stanzas answer
    → (answer ≡ Some (Ok file_key)) ⊎ (answer ≡ Some (Err OutOfMemory))) where
  abbrev sealed : List ℕ
  sealed = payload seal_of (payload_key file_key is.nonce) plain

  begun : BeginsAs or_legacy is.text stanzas is.mac is.nonce sealed (read.rest input).bytes
  begun = begins_old seal_of file_key stanzas plain (read.rest input).bytes is

  module _ (h : OldHeaderValue) (nonce : List ℕ) (rest : R) where
    back : (answer : UnwrapAnswer) (asks : AsksOld unwraps read before later input h nonce rest answer)
        → IsReadBack is.text (asks.front told).text stanzas h.stanzas is.mac h.mac is.nonce nonce sealed (read.rest input) (read.rest rest)
    back answer asks =
        read_back alone one or_legacy is.text stanzas is.mac is.nonce sealed (read.rest input) (read.rest rest) (read.place input) (read.place rest)
        (asks.front told).text h.stanzas h.mac nonce (asks.front told).took begun

    answered : (answer : UnwrapAnswer) → AsksOld unwraps read before later input h nonce rest answer
        → (answer ≡ Some (Ok file_key)) ⊎ (answer ≡ Some (Err OutOfMemory))
    answered answer asks = for answer (later, rw (back answer asks).stanzas_are at asks.first)

    same_key : (key : List ℕ) → AsksOld unwraps read before later input h nonce rest (Some (Ok key)) → key ≡ file_key
    same_key key asks = elim (answered (Some (Ok key)) asks) [
      | inl same ↦ let is_same : Path UnwrapAnswer (Some (Ok key)) (Some (Ok file_key)) = same in Prim.cc
      | inr other ↦ let is_other : Path UnwrapAnswer (Some (Ok key)) (Some (Err OutOfMemory)) = other in absurd (Prim.cc)
    ]

    -- what is appended is the file
    text_is : (key : List ℕ) → AsksOld unwraps read before later input h nonce rest (Some (Ok key))
        → file_front key h.stanzas nonce ++ (read.rest rest).bytes ≡ file_text seal_of file_key stanzas is.nonce plain
    unfolding file_text
    text_is key asks =
        let same = back (Some (Ok key)) asks in
        ap (λ k. file_front k h.stanzas nonce ++ (read.rest rest).bytes) (same_key key asks)
        ∙ ap (λ s. file_front file_key s nonce ++ (read.rest rest).bytes) same.stanzas_are
        ∙ ap (λ n. file_front file_key stanzas n ++ (read.rest rest).bytes) same.nonce_is
        ∙ ap (λ x. file_front file_key stanzas is.nonce ++ x) same.left

    -- and its MAC is right
    right_old : (answer : UnwrapAnswer) → AsksOld unwraps read before later input h nonce rest answer → h.mac ≡ header_mac file_key h.covered
    right_old answer asks =
        let same = back answer asks in
        same.mac_is ∙ is.right ∙ ap (λ t. header_mac file_key (covered t)) (sym same.text_is)
        ∙ ap (λ c. header_mac file_key c) (sym (asks.front told).told)

    refused_asked : (answer : UnwrapAnswer) (refusal : DecryptRefusal) → AsksOld unwraps read before later input h nonce rest answer
        → RefusesOld (decided answer) h refusal → refusal ≡ OutOfMemory
    refused_asked answer refusal asks why = elim (answered answer asks) [
      | inl key ↦ elim (subst (λ a. RefusesOld (decided a) h refusal) key why) [
        | inl wrong ↦ absurd (wrong.0 (right_old answer asks))
        | inr memory ↦ memory.1
      ]
      | inr want ↦ subst (λ a. RefusesOld (decided a) h refusal) want why
    ]

  pub migrated : AppendsMigrated seal_of write file_key stanzas is.nonce plain old new result
  migrated = record {
    is_file = becomes_file mac_bytes seal_of file_key stanzas plain (read.rest input).bytes is;
    all =
        on_ok_weaker result
        (λ done.
        let (h, nonce, rest, key, asks, right, all) = done in
        subst (λ t. write.appended old t new) (text_is h nonce rest key asks) all.2)
        (migrates.done told writer_told);
    front = elim (migrates.front told writer_told) [
      | inl same ↦ subst (λ w. AppendsFront write.appended (file_text seal_of file_key stanzas is.nonce plain) old w) (sym same)
          (none-copied write.appended _ old (nothing old))
      | inr done ↦
          let (h, nonce, rest, key, asks, right, out) = done in
          subst (λ t. AppendsFront write.appended t old new) (text_is h nonce rest key asks) out
    ];
  }

  pub refused_alone : IsQuiet (read.faults input) (read.faults last)
      → IfErr result (λ e. (error : Error) × (decrypt_refusal e ≡ decrypt_refusal (decrypt_of_io error))
      × ((error ≡ io.OutOfMemory) ⊎ HandsOn write.refuses old error))
  refused_alone quiet =
      IfErr-weaker result _ _
      (λ e why. elim why [
        | inl (same, none, refuses) ↦ (
          io.OutOfMemory,
          front_accepted alone one or_legacy is.text stanzas is.mac is.nonce sealed _ _ _ _ _ _ (decrypt_refusal e) begun quiet
              (refuses.why told),
          inl refl,
        )
        | inr (inl (none, asked)) ↦
            let (h, nonce, answer, asks, because) = asked in
            (io.OutOfMemory, refused_asked h nonce last answer (decrypt_refusal e) asks because, inl refl)
        | inr (inr under) ↦
            let (h, nonce, rest, key, asks, right, stops) = under in
            (stops.error, stops.is, stops.quiet told well quiet)
      ])
      migrates.refused
