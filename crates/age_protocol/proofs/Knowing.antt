-- Files of a passphrase, opened by those who know it.
use Rattle.std.specs.Prelude.{◌≡◌, ◌⊎◌, ℕ, Bool, true, false, List, [], ◌∷◌, ◌++◌, Option, None, Some, Result, Ok, Err, MatchOption, if◌then◌else◌}
use Rattle.std.specs.List.{AllZip}
use Rattle.std.proofs.Common.{◌∙◌, refl, sym, ap, subst, inl, inr, arith, append-nil}
use Rattle.std.proofs.lemmas.List.Elements.{All-nil}
use Rattle.age_error.specs.Bytes.{AreBytesOf}
use Rattle.age_error.specs.EncryptErrors.{EncryptRefusal, ShortRandom, WorkFactorRefused, OutOfMemory}
use Rattle.age_base64.specs.Base64.{columns}
use Rattle.age_suite.specs.Draw.{taken, left_after}
use Rattle.age_suite.specs.Suite.{IsCipher, IsStretching}
use Rattle.age_suite.specs.declared.suite.Suite.{Ghosts}
use Rattle.age_v1.specs.Belonging.{MayWrap}
use Rattle.age_v1.specs.Encrypting.{Ends, UnlessNoMemory, OnSuccess, After, WithDrawn, Prepared, Prepares, PreparesNonce, PreparesRest, PreparesWith, WrapsInTurn}
use Rattle.age_v1.specs.Stanza.{StanzaValue}
use Rattle.age_v1.specs.Recipients.{WrapAnswer, Wrapped, Gathered, nothing_yet, judged, has_scrypt}
use Rattle.age_format.proofs.Outcomes.{same_value, same_refusal, no_refusal, was_due}
use Rattle.age_v1.specs.Scrypt.{PassphraseRecipient, stretch_salt, scrypt_stanza, WrapsWithSalt}
use Rattle.age_v1.specs.RecipientType.{no_nonce}
use Rattle.age_keys.specs.ScryptLaws.{has_other_tag}
use Rattle.age_keys.proofs.Strings.{columns-tested}
use Rattle.age_keys.proofs.Stretched.{was_accepted, belongs}
use Rattle.age_protocol.specs.Several.{WrapsStrange, stanzas_of, grease_beside}
use Rattle.age_protocol.specs.Passphrases.{WrapsPassphrase, UnwrapsPassphrase, HoldsPassphrase, PassphraseHolds, PassphraseDecrypts, PassphraseRefuses}
use Rattle.age_protocol.proofs.Belonging.{any_decrypts, hold_answers}

-- the identity belongs to the only recipient
pub opened_by_knowing : {S : Type 0} (suite : Ghosts S) → IsCipher suite.seal_of suite.opened → IsStretching suite.stretch_of suite.accepts
    → PassphraseDecrypts suite
opened_by_knowing suite cipher stretching recipient identity draws left file plain text bytes some most meant prepares is_file plain_bytes within
    last =
    any_decrypts (WrapsPassphrase suite) (UnwrapsPassphrase suite) suite.seal_of _ identity None draws left file plain text
    (record {
      is_strange = has_other_tag;
      front = [];
      recipient = recipient;
      back = [];
      all = refl;
      strange = All-nil (WrapsStrange (WrapsPassphrase suite) has_other_tag);
      belongs = belongs suite.seal_of suite.opened suite.stretch_of suite.accepts cipher stretching recipient identity meant bytes some most;
    })
    prepares is_file plain_bytes within last

-- ---- steps that end

-- a draw that ends in a refusal: fewer bytes were left, or a later step refused
draw_refused : (B : Type 0) (bytes : Option (List ℕ)) (goes_on : List ℕ → Type 0) (draws left : List ℕ) (e : EncryptRefusal)
    → MatchOption bytes (Ends {A = B} (Err ShortRandom) draws (Err e) left) goes_on → (e ≡ ShortRandom) ⊎ ((some : List ℕ) × goes_on some)
draw_refused B None goes_on draws left e ended = inl (same_refusal {A = B} e ShortRandom ended.0)
draw_refused B (Some bytes) goes_on draws left e next = inr (bytes, next)

-- a draw that ends in a value: bytes were drawn
draw_given : {B : Type 0} (bytes : Option (List ℕ)) (goes_on : List ℕ → Type 0) (draws left : List ℕ) (x : B)
    → MatchOption bytes (Ends (Err ShortRandom) draws (Ok x) left) goes_on → (some : List ℕ) × goes_on some
draw_given None goes_on draws left x ended = no_refusal x ShortRandom ended.0
draw_given (Some bytes) goes_on draws left x next = (bytes, next)

-- ---- one recipient of a passphrase

-- a step that would end in a value ends in a refusal: memory was refused
ended_refused : {A : Type 0} (x : A) (draws left : List ℕ) (e : EncryptRefusal)
    → UnlessNoMemory {A = A} (Ends (Ok x) draws (Err e) left) draws (Err e) left → e ≡ OutOfMemory
ended_refused x draws left e (inl ended) = no_refusal x e (sym ended.0)
ended_refused {A} x draws left e (inr want) = same_refusal {A = A} e OutOfMemory want.0

factor_refused : (accepts : Bool) (made : Wrapped) (draws left : List ℕ) (e : EncryptRefusal)
    → After (if accepts then Ok made else Err WorkFactorRefused) (λ wrapped. Ends (Ok wrapped)) draws (Err e) left
    → ((e ≡ WorkFactorRefused) × (accepts ≡ false)) ⊎ (e ≡ OutOfMemory)
factor_refused true made draws left e h = inr (ended_refused made draws left e h)
factor_refused false made draws left e ended = inl (same_refusal {A = Wrapped} e WorkFactorRefused ended.0, refl)

-- what is wrapped under a passphrase is kept as it is: its label is a string
judged_alone : (wrapped : Wrapped) (s : StanzaValue) (label : List ℕ) → AreBytesOf 24 label → wrapped.stanzas ≡ s ∷ []
    → wrapped.labels ≡ columns label ∷ []
    → judged nothing_yet (Ok wrapped) ≡ Ok (record { labels = Some (columns label ∷ []); stanzas = s ∷ [] })
judged_alone wrapped s label h stanzas labels = rw (stanzas, labels, columns-tested 24 label (omega arith) h) refl

module _ {S : Type 0} (suite : Ghosts S) (recipient : PassphraseRecipient) where
  abbrev IsCause : EncryptRefusal → Type 0
  IsCause e = (e ≡ ShortRandom) ⊎ ((e ≡ WorkFactorRefused) × (suite.accepts recipient.factor ≡ false)) ⊎ (e ≡ OutOfMemory)

  abbrev Wraps : List ℕ → List ℕ → List ℕ → List ℕ → WrapAnswer → List ℕ → Type 0
  Wraps = WrapsWithSalt suite.seal_of suite.stretch_of suite.accepts recipient

  abbrev stanza : List ℕ → List ℕ → StanzaValue
  stanza file_key salt =
      scrypt_stanza salt recipient.factor
      (suite.seal_of (suite.stretch_of recipient.passphrase (stretch_salt salt) recipient.factor) no_nonce file_key)

  wrap_refused : (file_key draws left : List ℕ) (e : EncryptRefusal) → WrapsPassphrase suite recipient file_key draws (Err e) left → IsCause e
  wrap_refused file_key draws left e h =
      let between = left_after 16 draws in
      elim (draw_refused Wrapped (taken 16 draws) (λ salt. WithDrawn 24 (Wraps file_key salt) between (Err e) left) draws left e h) [
        | inl short ↦ inl short
        | inr (salt, next) ↦
            elim (draw_refused Wrapped (taken 24 between)
            (λ label. Wraps file_key salt label (left_after 24 between) (Err e) left) between left e next) [
              | inl short ↦ inl short
              | inr (label, wraps) ↦ inr (factor_refused (suite.accepts recipient.factor) _ _ left e wraps.3)
            ]
      ]

  -- what it wraps, if it does
  record Wrote (file_key : List ℕ) (wrapped : Wrapped) : Type 0 where
    accepted : suite.accepts recipient.factor ≡ true
    salt : List ℕ
    salt_bytes : AreBytesOf 16 salt
    label : List ℕ
    label_bytes : AreBytesOf 24 label
    stanzas : wrapped.stanzas ≡ stanza file_key salt ∷ []
    labels : wrapped.labels ≡ columns label ∷ []

  wrap_given : (file_key draws left : List ℕ) (wrapped : Wrapped) → WrapsPassphrase suite recipient file_key draws (Ok wrapped) left
      → Wrote file_key wrapped
  wrap_given file_key draws left wrapped h =
      let between = left_after 16 draws in
      let (drawn, next) = draw_given (taken 16 draws) (λ salt. WithDrawn 24 (Wraps file_key salt) between (Ok wrapped) left) draws left wrapped h in
      let (more, wraps) = draw_given (taken 24 between)
      (λ label. Wraps file_key drawn label (left_after 24 between) (Ok wrapped) left) between left wrapped next in
      let (takes, is) = was_accepted (suite.accepts recipient.factor) _ wrapped (was_due _ _ left wrapped wraps.3) in
      record {
        accepted = takes;
        salt = drawn;
        salt_bytes = wraps.1;
        label = more;
        label_bytes = wraps.2;
        stanzas = ap (λ w. w.stanzas) (sym is);
        labels = ap (λ w. w.labels) (sym is);
      }

  -- ---- the file

  turn_refused : (file_key draws between left : List ℕ) (e : EncryptRefusal) (answer : WrapAnswer)
      → WrapsPassphrase suite recipient file_key draws answer between
      → After (judged nothing_yet answer) (λ more. Ends (Ok more)) between (Err e) left → IsCause e
  turn_refused file_key draws between left e (Err f) wraps ended =
      subst IsCause (sym (same_refusal {A = Gathered} e f ended.0)) (wrap_refused file_key draws between f wraps)
  turn_refused file_key draws between left e (Ok wrapped) wraps after =
      let wrote = wrap_given file_key draws between wrapped wraps in
      let kept = rw (judged_alone wrapped _ wrote.label wrote.label_bytes wrote.stanzas wrote.labels) at after in
      inr (inr (ended_refused _ between left e kept))

  nonce_refused : (file_key draws left : List ℕ) (stanzas : List StanzaValue) (e : EncryptRefusal)
      → PreparesNonce file_key stanzas draws (Err e) left → IsCause e
  nonce_refused file_key draws left stanzas e h =
      let between = left_after 16 draws in
      elim (draw_refused Prepared (taken 16 draws)
      (λ nonce. UnlessNoMemory (Ends (Ok (record { file_key = file_key; stanzas = stanzas; nonce = nonce })) between (Err e) left) between
      (Err e) left) draws left e h) [
        | inl short ↦ inl short
        | inr (nonce, next) ↦ inr (inr (ended_refused _ between left e next))
      ]

  rest_refused : (file_key draws left : List ℕ) (stanzas : List StanzaValue) (e : EncryptRefusal)
      → After (Ok stanzas) (λ all. PreparesNonce file_key all) draws (Err e) left → IsCause e
  rest_refused file_key draws left stanzas e (inl next) = nonce_refused file_key draws left stanzas e next
  rest_refused file_key draws left stanzas e (inr want) = inr (inr (same_refusal {A = Prepared} e OutOfMemory want.0))

  -- all that was gathered is the recipient's stanza, which is kept alone
  gathered_refused : (file_key draws between middle left : List ℕ) (e : EncryptRefusal) (answer : WrapAnswer) (all : Gathered)
      → WrapsPassphrase suite recipient file_key draws answer between
      → After (judged nothing_yet answer) (λ more. Ends (Ok more)) between (Ok all) middle
      → PreparesRest file_key None all middle (Err e) left → IsCause e
  gathered_refused file_key draws between middle left e (Err f) all wraps ended rest = no_refusal all f ended.0
  gathered_refused file_key draws between middle left e (Ok wrapped) all wraps after rest =
      let wrote = wrap_given file_key draws between wrapped wraps in
      let kept = rw (judged_alone wrapped _ wrote.label wrote.label_bytes wrote.stanzas wrote.labels) at after in
      let is : all ≡ record { labels = Some (columns wrote.label ∷ []); stanzas = stanza file_key wrote.salt ∷ [] } =
      sym (same_value _ all (was_due (Ok _) between middle all kept)) in
      rest_refused file_key middle left (stanza file_key wrote.salt ∷ []) e (rw is at rest)

  outcome_refused : (file_key draws middle left : List ℕ) (e : EncryptRefusal) (gathered : Result Gathered EncryptRefusal)
      → WrapsInTurn (WrapsPassphrase suite) file_key nothing_yet (recipient ∷ []) draws gathered middle
      → OnSuccess gathered (λ all. PreparesRest file_key None all) middle (Err e) left → IsCause e
  outcome_refused file_key draws middle left e (Err f) turn ended =
      subst IsCause (sym (same_refusal {A = Prepared} e f ended.0)) (turn_refused file_key draws turn.1 middle f turn.0 turn.2 turn.3)
  outcome_refused file_key draws middle left e (Ok all) turn rest = gathered_refused file_key draws turn.1 middle left e turn.0 all turn.2 turn.3 rest

  refused : (draws left : List ℕ) (e : EncryptRefusal) → Prepares (WrapsPassphrase suite) (recipient ∷ []) None draws (Err e) left → IsCause e
  refused draws left e h =
      let between = left_after 16 draws in
      elim (draw_refused Prepared (taken 16 draws)
      (λ file_key. PreparesWith (WrapsPassphrase suite) (recipient ∷ []) None file_key between (Err e) left) draws left e h) [
        | inl short ↦ inl short
        | inr (file_key, next) ↦ outcome_refused file_key between next.1 left e next.0 next.2 next.3
      ]

  -- nothing stands behind the stanza, whatever it is
  no_grease : (passphrase : Bool) (stanzas : List StanzaValue) → stanzas ++ [] ++ grease_beside passphrase None ≡ stanzas
  no_grease true stanzas = append-nil (stanzas ++ []) ∙ append-nil stanzas
  no_grease false stanzas = append-nil (stanzas ++ []) ∙ append-nil stanzas

  held : (file : Prepared) (answers : List Wrapped) → AllZip (MayWrap (WrapsPassphrase suite) file.file_key) (recipient ∷ []) answers
      → file.stanzas ≡ stanzas_of answers ++ grease_beside (has_scrypt (stanzas_of answers)) None → HoldsPassphrase suite recipient file
  held file [] each in_order = absurd each
  held file (wrapped ∷ []) each in_order =
      let (draws, left, wraps) = each.0 in
      let wrote = wrap_given file.file_key draws left wrapped wraps in
      record {
        accepted = wrote.accepted;
        salt = wrote.salt;
        bytes = wrote.salt_bytes;
        alone = in_order ∙ no_grease (has_scrypt (wrapped.stanzas ++ [])) wrapped.stanzas ∙ wrote.stanzas;
      }
  held file (wrapped ∷ (more ∷ answers)) each in_order = absurd each.1

pub refuses_so : {S : Type 0} (suite : Ghosts S) → PassphraseRefuses suite
refuses_so suite recipient draws left e prepares = refused suite recipient draws left e prepares

pub holds_one : {S : Type 0} (suite : Ghosts S) → PassphraseHolds suite
holds_one suite recipient draws left file prepares =
    let holds = hold_answers (WrapsPassphrase suite) (recipient ∷ []) None draws left file prepares in
    held suite recipient file holds.answers holds.each holds.in_order
