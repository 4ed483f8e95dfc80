-- Bytes that begin as a file are read so.
use Rattle.std.proofs.Common.{◌≡◌, ◌≢◌, ◌∙◌, ◌⊎◌, refl, sym, ap, subst, inl, inr, ℕ, ◌<◌, Bool, List, ◌++◌, length, take, drop, take_at, drop_at, append_assoc, length-append, arith}
use Rattle.age_error.specs.DecryptErrors as refusals
use Rattle.age_error.specs.DecryptErrors.{DecryptRefusal, decrypt_refusal, decrypt_of_io}
use Rattle.age_error.specs.declared.io.Error.{Error}
use Rattle.age_error.specs.declared.io.Error.TheVariants as io
use Rattle.age_error.specs.Bytes.{AreBytesOf}
use Rattle.age_io.specs.declared.traits.Read.{Ghosts}
use Rattle.age_io.specs.Stretch.{Stretch}
use Rattle.age_io.specs.Reading.{IsQuiet}
use Rattle.age_v1.specs.HeaderTexts.{canonical, IsHeaderText}
use Rattle.age_v1.specs.Stanza.{StanzaValue}
use Rattle.age_v1.specs.Header.{KeepsScryptRule, covered_text, header_text}
use Rattle.age_v1.proofs.Headers.{canonical_header}
use Rattle.age_v1.specs.HeaderMac.{header_mac}
use Rattle.age_v1.specs.HeaderVerdict.{Verdict, Header, UnknownVersion, Bad, IsVerdict}
use Rattle.age_format.specs.ReadingHeader.{RefusesHeader}
use Rattle.age_v1.specs.Payload.{Seal, payload, payload_key}
use Rattle.age_v1.specs.File.{BeginsAsFile, IsFileOf, file_front, file_text}
use Rattle.age_protocol.specs.Decrypting.{TookHeaderAndNonce, BreaksFrontRules, WhyNoFront}
use Rattle.age_protocol.specs.Laws.{ReadsBack, RefusesNoFile, FileOpens}

-- two lists of one length with something after them
front_same : (a b x y : List ℕ) → length a ≡ length b → a ++ x ≡ b ++ y → a ≡ b
front_same a b x y size is = sym (take_at a x (length a) refl) ∙ ap (λ l. take (length a) l) is ∙ take_at b y (length a) (sym size)

rest_same : (a b x y : List ℕ) → length a ≡ length b → a ++ x ≡ b ++ y → x ≡ y
rest_same a b x y size is = sym (drop_at a x (length a) refl) ∙ ap (λ l. drop (length a) l) is ∙ drop_at b y (length a) (sym size)

same_stanzas : (s t : List StanzaValue) (m n : List ℕ) → Header s m ≡ Header t n → s ≡ t
same_stanzas s t m n is = cc

same_mac : (s t : List StanzaValue) (m n : List ℕ) → Header s m ≡ Header t n → m ≡ n
same_mac s t m n is = cc

pub memory_or_not : (e : Error) → (e ≡ io.OutOfMemory) ⊎ (e ≢ io.OutOfMemory)
memory_or_not (io.Device kind) = inr (λ is. cc)
memory_or_not io.UnexpectedEof = inr (λ is. cc)
memory_or_not io.WriteZero = inr (λ is. cc)
memory_or_not io.BeforeStart = inr (λ is. cc)
memory_or_not io.PastEnd = inr (λ is. cc)
memory_or_not io.Truncated = inr (λ is. cc)
memory_or_not io.BadChunk = inr (λ is. cc)
memory_or_not io.AfterLast = inr (λ is. cc)
memory_or_not io.LastChunkEmpty = inr (λ is. cc)
memory_or_not io.BadEnd = inr (λ is. cc)
memory_or_not io.TooLong = inr (λ is. cc)
memory_or_not io.LimitExceeded = inr (λ is. cc)
memory_or_not (io.Armor fault) = inr (λ is. cc)
memory_or_not (io.NotIdentity line) = inr (λ is. cc)
memory_or_not io.Failed = inr (λ is. cc)
memory_or_not io.OutOfMemory = inl refl

-- The bytes begin with a header's text, whose stanzas keep the rule on passphrases, and a nonce.
pub record BeginsAs (legacy : Bool) (text : List ℕ) (stanzas : List StanzaValue) (mac nonce more bytes : List ℕ) : Type 0 where
  pub header : IsHeaderText legacy text stanzas mac
  pub rule : KeepsScryptRule stanzas
  pub sixteen : AreBytesOf 16 nonce
  pub whole : bytes ≡ text ++ (nonce ++ more)

-- as each file does
pub begins_as : (stanzas : List StanzaValue) (mac nonce more bytes : List ℕ) → BeginsAsFile stanzas mac nonce more bytes
    → BeginsAs canonical (header_text stanzas mac) stanzas mac nonce more bytes
begins_as stanzas mac nonce more bytes begins = record {
  header = canonical_header canonical stanzas mac begins.header;
  rule = begins.rule;
  sixteen = begins.sixteen;
  whole = begins.whole;
}

pub begins : (seal_of : Seal) (file_key : List ℕ) (stanzas : List StanzaValue) (plain text : List ℕ)
    (f : IsFileOf seal_of file_key stanzas plain text)
    → BeginsAsFile stanzas (header_mac file_key (covered_text stanzas)) f.nonce (payload seal_of (payload_key file_key f.nonce) plain) text
unfolding file_text file_front
begins seal_of file_key stanzas plain text f = record {
  header = f.header;
  rule = f.rule;
  sixteen = f.sixteen;
  whole = f.whole ∙ append_assoc (header_text stanzas (header_mac file_key (covered_text stanzas))) f.nonce
      (payload seal_of (payload_key file_key f.nonce) plain);
}

-- a header's text is read as that header, whatever follows
abbrev pub ReadsAlone : Type 0
ReadsAlone = (legacy : Bool) (text more : List ℕ) (stanzas : List StanzaValue) (mac : List ℕ)
    → IsHeaderText legacy text stanzas mac → IsVerdict legacy (text ++ more) text (Header stanzas mac)

-- an input has at most one verdict
abbrev pub HasOneVerdict : Type 0
HasOneVerdict = (legacy : Bool) (input front other : List ℕ) (v w : Verdict) → IsVerdict legacy input front v
    → IsVerdict legacy input other w → (front ≡ other) × (v ≡ w)

-- What was read from bytes that begin so: the same text, stanzas, MAC and nonce, and no byte of what follows.
pub record IsReadBack (text other : List ℕ) (stanzas others : List StanzaValue) (mac own nonce read more : List ℕ)
    (start rest : Stretch) : Type 0 where
  pub text_is : other ≡ text
  pub stanzas_are : others ≡ stanzas
  pub mac_is : own ≡ mac
  pub nonce_is : read ≡ nonce
  pub left : rest.bytes ≡ more
  pub end : rest.ends_well ≡ start.ends_well

module _ (alone : ReadsAlone) (one : HasOneVerdict) (legacy : Bool) (text : List ℕ) (stanzas : List StanzaValue) (mac nonce more : List ℕ) where
  -- the verdict on them
  pub verdict_of : (bytes : List ℕ) → BeginsAs legacy text stanzas mac nonce more bytes → IsVerdict legacy bytes text (Header stanzas mac)
  verdict_of bytes begins = subst (λ input. IsVerdict legacy input text (Header stanzas mac)) (sym begins.whole)
      (alone legacy text (nonce ++ more) stanzas mac begins.header)

  pub read_back : (start rest : Stretch) (start_place place : ℕ) (other : List ℕ) (others : List StanzaValue) (own read : List ℕ)
      → TookHeaderAndNonce legacy start rest start_place place other others own read → BeginsAs legacy text stanzas mac nonce more start.bytes
      → IsReadBack text other stanzas others mac own nonce read more start rest
  read_back start rest start_place place other others own read took begins =
      let same = one legacy start.bytes other text (Header others own) (Header stanzas mac) took.verdict (verdict_of start.bytes begins) in
      let after : read ++ rest.bytes ≡ nonce ++ more =
      rest_same other text (read ++ rest.bytes) (nonce ++ more) (ap length same.0)
      (sym (append_assoc other read rest.bytes) ∙ sym took.delivered.bytes ∙ begins.whole) in
      let size : length read ≡ length nonce = took.sixteen.len ∙ sym begins.sixteen.len in record {
        text_is = same.0;
        stanzas_are = same_stanzas others stanzas own mac same.1;
        mac_is = same_mac others stanzas own mac same.1;
        nonce_is = front_same read nonce rest.bytes more size after;
        left = rest_same read nonce rest.bytes more size after;
        end = took.delivered.end;
      }

  header_accepted : (f g : ℕ) (old new : Stretch) (p q : ℕ) (e : DecryptRefusal) → BeginsAs legacy text stanzas mac nonce more old.bytes
      → IsQuiet f g → RefusesHeader legacy f g old new p q e → e ≡ refusals.OutOfMemory
  header_accepted f g old new p q refusals.OutOfMemory begins quiet why = refl
  header_accepted f g old new p q refusals.InvalidHeader begins quiet why =
      let same = (one legacy old.bytes why.0 text Bad (Header stanzas mac) why.1.verdict (verdict_of old.bytes begins)).1 in cc
  header_accepted f g old new p q refusals.UnknownFormat begins quiet why =
      let same = (one legacy old.bytes why.0 text UnknownVersion (Header stanzas mac) why.1.verdict (verdict_of old.bytes begins)).1 in cc
  header_accepted f g old new p q (refusals.Io e) begins quiet why =
      absurd (why.undecided text (nonce ++ more) (Header stanzas mac) (why.all quiet ∙ begins.whole) begins.header)
  header_accepted f g old new p q refusals.DecryptionFailed begins quiet why = absurd why
  header_accepted f g old new p q (refusals.ExcessiveWork a b) begins quiet why = absurd why
  header_accepted f g old new p q refusals.InvalidMac begins quiet why = absurd why
  header_accepted f g old new p q refusals.KeyDecryptionFailed begins quiet why = absurd why
  header_accepted f g old new p q refusals.NoMatchingKeys begins quiet why = absurd why
  header_accepted f g old new p q (refusals.PluginResolve r) begins quiet why = absurd why

  -- what follows the header is the nonce, and the stanzas keep the rule
  after_accepted : (f g : ℕ) (old new : Stretch) (p q : ℕ) (e : DecryptRefusal) → BeginsAs legacy text stanzas mac nonce more old.bytes
      → IsQuiet f g → BreaksFrontRules legacy f g old new p q e → e ≡ refusals.OutOfMemory
  after_accepted f g old new p q e begins quiet why =
      let same = one legacy old.bytes why.text text (Header why.stanzas why.mac) (Header stanzas mac) why.header.verdict
      (verdict_of old.bytes begins) in
      let left : why.after.bytes ≡ nonce ++ more =
      rest_same why.text text why.after.bytes (nonce ++ more) (ap length same.0) (sym why.header.delivered.bytes ∙ begins.whole) in
      elim why.why [
        | inl lacks ↦ elim (memory_or_not lacks.error) [
          | inl memory ↦ lacks.is ∙ ap (λ x. decrypt_refusal (decrypt_of_io x)) memory
          | inr other ↦
              let few : length why.after.bytes < 16 = (lacks.short other quiet).short in
              let size : length nonce ≡ 16 = begins.sixteen.len in
              absurd (omega (arith, few, size, ap length left, length-append nonce more))
        ]
        | inr breaks ↦ absurd (breaks.broken (subst (λ xs. KeepsScryptRule xs)
            (sym (same_stanzas why.stanzas stanzas why.mac mac same.1)) begins.rule))
      ]

  -- they are refused for want of memory alone
  pub front_accepted : (f g : ℕ) (old new : Stretch) (p q : ℕ) (e : DecryptRefusal) → BeginsAs legacy text stanzas mac nonce more old.bytes
      → IsQuiet f g → WhyNoFront legacy f g old new p q e → e ≡ refusals.OutOfMemory
  front_accepted f g old new p q e begins quiet why = elim why [
    | inl why ↦ header_accepted f g old new p q e begins quiet why
    | inr why ↦ after_accepted f g old new p q e begins quiet why
  ]

module _ (alone : ReadsAlone) (one : HasOneVerdict) where
  pub reads_back : ReadsBack
  reads_back start rest start_place place h read stanzas mac nonce more front begins =
      let back = read_back alone one canonical (header_text stanzas mac) stanzas mac nonce more start rest start_place place
      (header_text h.stanzas h.mac) h.stanzas h.mac read
      front.took (begins_as stanzas mac nonce more start.bytes begins) in
      (back.stanzas_are, back.mac_is, back.nonce_is, back.left, back.end)

  pub accepted : {R : Type 0} (read : Ghosts R) → RefusesNoFile read
  accepted read old new e stanzas mac nonce more refuses told quiet begins =
      front_accepted alone one canonical (header_text stanzas mac) stanzas mac nonce more (read.faults old) (read.faults new) (read.rest old)
      (read.rest new)
      (read.place old) (read.place new) e (begins_as stanzas mac nonce more (read.rest old).bytes begins) quiet (refuses.why told)

pub opens : (back : ReadsBack) (seal_of : Seal) → FileOpens seal_of
opens back seal_of start rest start_place place h nonce file_key stanzas plain front file =
    let mac = header_mac file_key (covered_text stanzas) in
    let sealed = payload seal_of (payload_key file_key file.nonce) plain in
    let (stanzas_are, mac_is, nonce_is, left, end) =
    back start rest start_place place h nonce stanzas mac file.nonce sealed front (begins seal_of file_key stanzas plain start.bytes file) in (
      stanzas_are,
      mac_is ∙ ap (λ s. header_mac file_key (covered_text s)) (sym stanzas_are),
      nonce_is,
      left ∙ ap (λ n. payload seal_of (payload_key file_key n) plain) (sym nonce_is),
      end,
    )
