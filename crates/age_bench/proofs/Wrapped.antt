-- What a file comes to that is encrypted to the one recipient that TO names.
use Rattle.std.specs.Prelude.{◌≡◌, ◌⊎◌, ℕ, Bool, true, false, List, [], ◌∷◌, ◌++◌, length, take, drop, nat_le, bytes_eq, Option, Some, None, Result, Ok, Err, if◌then◌else◌, MatchOption, refl}
use Rattle.std.specs.List.{list_all}
use Rattle.std.specs.Result.{result_map_both}
use Rattle.std.proofs.Common.{◌∙◌, sym, ap, subst, inl, inr, arith}
use Rattle.std.proofs.lemmas.Bool.{false≢true}
use Rattle.age.specs.Bytes.{AreBytesOf}
use Rattle.age.specs.Base64.{columns}
use Rattle.age.specs.Stanza.{is_string_of, StanzaValue}
use Rattle.age.specs.EncryptErrors.{EncryptRefusal, OutOfMemory, ShortRandom, ZeroSharedSecret, WorkFactorRefused, InvalidRecipientLabels, encrypt_refusal}
use Rattle.age.specs.FileErrors.{EncryptsUnless}
use Rattle.age.specs.FileErrorVariants.{Io, Encrypt, Decrypt}
use Rattle.age.specs.Types.{FileError}
use Rattle.age.specs.Recipients.{Wrapped, WrapAnswer, Gathered, has_scrypt, judged, nothing_yet, with_labels}
use Rattle.age.specs.Draw.{taken, left_after}
use Rattle.age.specs.Encrypting.{Ends, UnlessNoMemory, OnSuccess, After, drawn, and_then, Prepared, PreparesNonce, PreparesRest, PreparesWith, Prepares, WrapsInTurn}
use Rattle.age.proofs.Outcomes.{same_value, same_refusal, no_refusal}
use Rattle.age.proofs.KeyStrings.{columns-tested}
use Rattle.age.specs.Several.{grease_beside}
use Rattle.age.specs.File.{file_text}
use Rattle.age.specs.X25519.{wrapped_with, x25519_stanza, no_secret}
use Rattle.age.specs.Scrypt.{PassphraseRecipient, WrapsWithSalt, wrapped_under}
use Rattle.age_bench.specs.Bench.{bench_seal, bench_shared, bench_public, bench_stretch, bench_accepts}
use Rattle.age_bench.specs.Recipient.{bench_stanza, bench_grease}
use Rattle.age_bench.specs.Names.{WrapsTo, wrapped_by, left_by, stanzas_beside, prepared_by, file_by}
use Rattle.age_bench.specs.declared.names.To.{To}
use Rattle.age_bench.specs.declared.names.To.TheVariants.{Bench, Key, Passphrase}

-- an outcome is what is due, or want of memory
abbrev pub IsDue : {A : Type 0} → Result A EncryptRefusal → Result A EncryptRefusal → Type 0
IsDue due outcome = (outcome ≡ due) ⊎ (outcome ≡ Err OutOfMemory)

-- a refusal of encryption says what follows from what it says
pub encrypts_weaker : (P Q : EncryptRefusal → Type 0) → ((refusal : EncryptRefusal) → P refusal → Q refusal) → (e : FileError)
    → EncryptsUnless P e → EncryptsUnless Q e
encrypts_weaker P Q f (Encrypt e) d = f (encrypt_refusal e) d
encrypts_weaker P Q f (Io e) d = tt
encrypts_weaker P Q f (Decrypt e) d = d

-- random bytes that may be too few
due_of_drawn : {A : Type 0} (bytes : Option (List ℕ)) (goes_on : List ℕ → Type 0) (draws left : List ℕ) (outcome : Result A EncryptRefusal)
    (next : List ℕ → Result A EncryptRefusal) → ((b : List ℕ) → goes_on b → IsDue (next b) outcome)
    → MatchOption bytes (Ends (Err ShortRandom) draws outcome left) goes_on → IsDue (drawn bytes next) outcome
due_of_drawn None goes_on draws left outcome next step h = inl h.0
due_of_drawn (Some b) goes_on draws left outcome next step h = step b h

-- the nonce
nonce_due : (file_key : List ℕ) (stanzas : List StanzaValue) (draws left : List ℕ) (outcome : Result Prepared EncryptRefusal)
    → PreparesNonce file_key stanzas draws outcome left
    → IsDue (drawn (taken 16 draws) (λ nonce. Ok (record { file_key = file_key; stanzas = stanzas; nonce = nonce }))) outcome
nonce_due file_key stanzas draws left outcome h =
    let made : List ℕ → Prepared = λ nonce. record { file_key = file_key; stanzas = stanzas; nonce = nonce } in
    let goes_on : List ℕ → Type 0 = λ nonce. UnlessNoMemory (Ends (Ok (made nonce)) (left_after 16 draws) outcome left)
    (left_after 16 draws) outcome left in
    due_of_drawn (taken 16 draws) goes_on draws left outcome (λ nonce. Ok (made nonce))
    (λ nonce on. elim on [
      | inl done ↦ inl done.0
      | inr want ↦ inr want.0
    ]) h

-- one stanza, and labels that are strings
pub record IsOne (wrapped : Wrapped) : Type 0 where
  pub stanza : StanzaValue
  pub labels : List (List ℕ)
  pub is : wrapped ≡ record { stanzas = stanza ∷ []; labels = labels }
  pub strings : list_all is_string_of labels ≡ true

-- an answer where this is due, and these random bytes are left after a success
pub record Answers (due : Result Wrapped EncryptRefusal) (kept : List ℕ) (answer : WrapAnswer) (left : List ℕ) : Type 0 where
  pub is_due : IsDue due answer
  pub left_is : (wrapped : Wrapped) → answer ≡ Ok wrapped → left ≡ kept
  pub one : (wrapped : Wrapped) → answer ≡ Ok wrapped → IsOne wrapped

-- what TO answers
abbrev Answered : To → List ℕ → List ℕ → WrapAnswer → List ℕ → Type 0
Answered to file_key draws answer left = Answers (wrapped_by to file_key draws) (left_by to draws) answer left

-- what was wrapped was due
value_due : (due : Result Wrapped EncryptRefusal) (wrapped : Wrapped) (answer : WrapAnswer) → IsDue due answer → answer ≡ Ok wrapped
    → due ≡ Ok wrapped
value_due due wrapped answer (inl is) made = sym is ∙ made
value_due due wrapped answer (inr want) made = no_refusal wrapped OutOfMemory (sym made ∙ want)

-- one stanza without labels
plain_one : (stanza : StanzaValue) (wrapped : Wrapped)
    → ◌≡◌ {A = Result Wrapped EncryptRefusal} (Ok (record { stanzas = stanza ∷ []; labels = [] })) (Ok wrapped)
    → IsOne wrapped
plain_one stanza wrapped is = record { stanza = stanza; labels = []; is = sym (same_value _ wrapped is); strings = refl }

-- a refusal that is due, or want of memory
refused_as : (e : EncryptRefusal) (due : Result Wrapped EncryptRefusal) (kept : List ℕ) (answer : WrapAnswer) (left : List ℕ) → answer ≡ Err e
    → IsDue due answer
    → Answers due kept answer left
refused_as e due kept answer left is so =
    record { is_due = so; left_is = λ wrapped made. no_refusal wrapped e (sym made ∙ is); one = λ wrapped made. no_refusal wrapped e (sym made ∙ is) }

bench_answered : (file_key draws : List ℕ) (answer : WrapAnswer) (left : List ℕ) → WrapsTo Bench file_key draws answer left
    → Answered Bench file_key draws answer left
bench_answered file_key draws answer left (inl h) =
    record { is_due = inl h.0; left_is = λ _ _. h.1; one = λ wrapped is. plain_one (bench_stanza file_key) wrapped (sym h.0 ∙ is) }
bench_answered file_key draws answer left (inr h) = refused_as OutOfMemory _ _ answer left h.0 (inr h.0)

-- what came after a value that was due
after_due : (due : Result Wrapped EncryptRefusal) (draws : List ℕ) (answer : WrapAnswer) (left : List ℕ)
    → After due (λ w. Ends (Ok w)) draws answer left
    → IsDue due answer × (left ≡ draws)
after_due (Err e) draws answer left h = (inl h.0, h.1)
after_due (Ok w) draws answer left (inl h) = (inl h.0, h.1)
after_due (Ok w) draws answer left (inr h) = (inr h.0, h.1)

-- an answer for which random bytes are drawn
drawn_answer : (enough : Bool) (n : ℕ) (Known : List ℕ → Type 0) (due : List ℕ → Result Wrapped EncryptRefusal) (draws : List ℕ)
    (answer : WrapAnswer) (left : List ℕ)
    → MatchOption (if enough then Some (take n draws) else None) (Ends (Err ShortRandom) draws answer left)
    (λ bytes. Known bytes × After (due bytes) (λ w. Ends (Ok w)) (if enough then drop n draws else draws) answer left)
    → IsDue (drawn (if enough then Some (take n draws) else None) due) answer × (left ≡ (if enough then drop n draws else draws))
drawn_answer true n Known due draws answer left h = after_due (due (take n draws)) (drop n draws) answer left h.1
drawn_answer false n Known due draws answer left h = (inl h.0, h.1)

-- what is known of the file key and of the ephemeral secret, put together
of_some : (bytes : Option (List ℕ)) (Short : Type 0) (A B C : List ℕ → Type 0) → MatchOption bytes Short (λ b. A b × B b × C b)
    → MatchOption bytes Short (λ b. (A b × B b) × C b)
of_some None Short A B C h = h
of_some (Some b) Short A B C h = ((h.0, h.1), h.2)

key_one : (zero : Bool) (share body : List ℕ) (wrapped : Wrapped)
    → (if zero then Err ZeroSharedSecret else Ok (record { stanzas = x25519_stanza share body ∷ []; labels = [] })) ≡ Ok wrapped → IsOne wrapped
key_one true share body wrapped is = no_refusal wrapped ZeroSharedSecret (sym is)
key_one false share body wrapped is = plain_one (x25519_stanza share body) wrapped is

drawn_one : (bytes : Option (List ℕ)) (due : List ℕ → Result Wrapped EncryptRefusal) (wrapped : Wrapped)
    → ((b : List ℕ) → due b ≡ Ok wrapped → IsOne wrapped) → drawn bytes due ≡ Ok wrapped → IsOne wrapped
drawn_one None due wrapped each is = no_refusal wrapped ShortRandom (sym is)
drawn_one (Some b) due wrapped each is = each b is

key_answered : (public file_key draws : List ℕ) (answer : WrapAnswer) (left : List ℕ) → WrapsTo (Key public) file_key draws answer left
    → Answered (Key public) file_key draws answer left
key_answered public file_key draws answer left h =
    let due : List ℕ → Result Wrapped EncryptRefusal = λ ephemeral. wrapped_with bench_seal bench_shared bench_public public file_key ephemeral in
    let after : List ℕ → Type 0 = λ ephemeral. After (due ephemeral) (λ w. Ends (Ok w)) (left_after 32 draws) answer left in
    let known = of_some (taken 32 draws) (Ends (Err ShortRandom) draws answer left) (λ ephemeral. AreBytesOf 16 file_key)
    (λ ephemeral. AreBytesOf 32 ephemeral) after h in
    let (is, same) = drawn_answer (nat_le 32 (length draws)) 32
    (λ ephemeral. AreBytesOf 16 file_key × AreBytesOf 32 ephemeral) due draws answer left known in
    record {
      is_due = is;
      left_is = λ _ _. same;
      one = λ wrapped made.
          drawn_one (taken 32 draws) due wrapped (λ ephemeral so. key_one (bytes_eq (bench_shared ephemeral public) no_secret) _ _ wrapped so)
          (value_due (drawn (taken 32 draws) due) wrapped answer is made);
    }

-- ---- a passphrase

-- the label is a string
label_string : (label : List ℕ) → AreBytesOf 24 label → list_all is_string_of (columns label ∷ []) ≡ true
label_string label h = rw (columns-tested 24 label (omega arith) h) refl

passphrase_one : (accepts : Bool) (stanza : StanzaValue) (label : List ℕ) (wrapped : Wrapped) → AreBytesOf 24 label
    → (if accepts then Ok (record { stanzas = stanza ∷ []; labels = columns label ∷ [] }) else Err WorkFactorRefused) ≡ Ok wrapped → IsOne wrapped
passphrase_one true stanza label wrapped bytes is =
    record { stanza = stanza; labels = columns label ∷ []; is = sym (same_value _ wrapped is); strings = label_string label bytes }
passphrase_one false stanza label wrapped bytes is = no_refusal wrapped WorkFactorRefused (sym is)

passphrase_by : (salt label : Option (List ℕ)) (recipient : PassphraseRecipient) (file_key draws between kept : List ℕ) (answer : WrapAnswer)
    (left : List ℕ)
    → MatchOption salt (Ends (Err ShortRandom) draws answer left) (λ s. MatchOption label (Ends (Err ShortRandom) between answer left)
    (λ l. WrapsWithSalt bench_seal bench_stretch bench_accepts recipient file_key s l kept answer left))
    → Answers (drawn salt (λ s. drawn label (λ l. wrapped_under bench_seal bench_stretch bench_accepts recipient file_key s l))) kept answer left
passphrase_by None label recipient file_key draws between kept answer left h = refused_as ShortRandom _ kept answer left h.0 (inl h.0)
passphrase_by (Some s) None recipient file_key draws between kept answer left h = refused_as ShortRandom _ kept answer left h.0 (inl h.0)
passphrase_by (Some s) (Some l) recipient file_key draws between kept answer left h =
    let due = wrapped_under bench_seal bench_stretch bench_accepts recipient file_key s l in
    let (is, same) = after_due due kept answer left h.3 in
    record {
      is_due = is;
      left_is = λ _ _. same;
      one = λ wrapped made. passphrase_one (bench_accepts recipient.factor) _ l wrapped h.2 (value_due due wrapped answer is made);
    }

passphrase_answered : (recipient : PassphraseRecipient) (file_key draws : List ℕ) (answer : WrapAnswer) (left : List ℕ)
    → WrapsTo (Passphrase recipient) file_key draws answer left → Answered (Passphrase recipient) file_key draws answer left
passphrase_answered recipient file_key draws answer left h =
    passphrase_by (taken 16 draws) (taken 24 (left_after 16 draws)) recipient file_key draws (left_after 16 draws)
    (left_after 24 (left_after 16 draws)) answer left h

answered : (to : To) (file_key draws : List ℕ) (answer : WrapAnswer) (left : List ℕ) → WrapsTo to file_key draws answer left
    → Answered to file_key draws answer left
answered Bench file_key draws answer left h = bench_answered file_key draws answer left h
answered (Key public) file_key draws answer left h = key_answered public file_key draws answer left h
answered (Passphrase recipient) file_key draws answer left h = passphrase_answered recipient file_key draws answer left h

made_due : (due : Result Wrapped EncryptRefusal) (wrapped : Wrapped) → IsDue due (Ok wrapped) → Ok wrapped ≡ due
made_due due wrapped (inl is) = is
made_due due wrapped (inr want) = no_refusal wrapped OutOfMemory want

-- ---- the whole

-- one stanza and its labels come to themselves
abbrev gathered_by : StanzaValue → List (List ℕ) → Gathered
gathered_by stanza labels = record { labels = Some labels; stanzas = stanza ∷ [] }

judged_by : (strings : Bool) (stanza : StanzaValue) (labels : List (List ℕ)) → strings ≡ true
    → with_labels (stanza ∷ []) (if strings then Ok labels else Err (InvalidRecipientLabels labels)) ≡ Ok (gathered_by stanza labels)
judged_by true stanza labels is = refl
judged_by false stanza labels is = absurd (false≢true is)

judged_one : (wrapped : Wrapped) (one : IsOne wrapped) → judged nothing_yet (Ok wrapped) ≡ Ok (gathered_by one.stanza one.labels)
judged_one wrapped one = ap (λ w. judged nothing_yet (Ok w)) one.is ∙ judged_by (list_all is_string_of one.labels) one.stanza one.labels one.strings

-- the nonce that is due after these stanzas
abbrev with_nonce : List ℕ → List StanzaValue → List ℕ → Result Prepared EncryptRefusal
with_nonce file_key stanzas draws = drawn (taken 16 draws) (λ nonce. Ok (record { file_key = file_key; stanzas = stanzas; nonce = nonce }))

-- after the stanza, and the grease where it may stand beside it
abbrev finished : List ℕ → Wrapped → List ℕ → Result Prepared EncryptRefusal
finished file_key wrapped draws = with_nonce file_key (stanzas_beside wrapped.stanzas) draws

rest_on : (file_key : List ℕ) (stanzas : List StanzaValue) (draws : List ℕ) (outcome : Result Prepared EncryptRefusal) (left : List ℕ)
    → UnlessNoMemory (PreparesNonce file_key stanzas draws outcome left) draws outcome left → IsDue (with_nonce file_key stanzas draws) outcome
rest_on file_key stanzas draws outcome left (inl nonce) = nonce_due file_key stanzas draws left outcome nonce
rest_on file_key stanzas draws outcome left (inr want) = inr want.0

rest_by : (scrypt : Bool) (file_key : List ℕ) (stanza : StanzaValue) (draws : List ℕ) (outcome : Result Prepared EncryptRefusal) (left : List ℕ)
    → After (if scrypt then Ok (stanza ∷ []) else Ok (stanza ∷ bench_grease ∷ [])) (λ stanzas. PreparesNonce file_key stanzas) draws outcome left
    → IsDue (with_nonce file_key ((stanza ∷ []) ++ grease_beside scrypt (Some bench_grease)) draws) outcome
rest_by true file_key stanza draws outcome left h = rest_on file_key (stanza ∷ []) draws outcome left h
rest_by false file_key stanza draws outcome left h = rest_on file_key (stanza ∷ bench_grease ∷ []) draws outcome left h

rest_due : (file_key : List ℕ) (stanza : StanzaValue) (labels : List (List ℕ)) (draws : List ℕ) (outcome : Result Prepared EncryptRefusal)
    (left : List ℕ)
    → PreparesRest file_key (Some bench_grease) (gathered_by stanza labels) draws outcome left
    → IsDue (finished file_key (record { stanzas = stanza ∷ []; labels = labels }) draws) outcome
rest_due file_key stanza labels draws outcome left h = rest_by (has_scrypt (stanza ∷ [])) file_key stanza draws outcome left h

gathered_due : (file_key : List ℕ) (stanza : StanzaValue) (labels : List (List ℕ)) (draws : List ℕ) (gathered : Result Gathered EncryptRefusal)
    (between : List ℕ) (outcome : Result Prepared EncryptRefusal) (left : List ℕ)
    → UnlessNoMemory (Ends (Ok (gathered_by stanza labels)) draws gathered between) draws gathered between
    → OnSuccess gathered (λ all. PreparesRest file_key (Some bench_grease) all) between outcome left
    → IsDue (finished file_key (record { stanzas = stanza ∷ []; labels = labels }) draws) outcome
gathered_due file_key stanza labels draws gathered between outcome left (inl ended) rest =
    let on : PreparesRest file_key (Some bench_grease) (gathered_by stanza labels) draws outcome left = rw (ended.0, ended.1) at rest in
    rest_due file_key stanza labels draws outcome left on
gathered_due file_key stanza labels draws gathered between outcome left (inr want) rest =
    let ended : Ends (Err OutOfMemory) between outcome left = rw want.0 at rest in
    inr ended.0

-- the same where the recipient refused
refused_due : (due : Result Wrapped EncryptRefusal) (next : Wrapped → Result Prepared EncryptRefusal) (e : EncryptRefusal)
    (outcome : Result Prepared EncryptRefusal)
    → IsDue due (Err e) → outcome ≡ Err e → IsDue (and_then due next) outcome
refused_due due next e outcome (inl is) ended = inl (ended ∙ ap (λ d. and_then d next) is)
refused_due due next e outcome (inr want) ended = inr (ended ∙ ap Err (same_refusal {A = Wrapped} e OutOfMemory want))

with_due : (to : To) (file_key draws : List ℕ) (outcome : Result Prepared EncryptRefusal) (left : List ℕ)
    → PreparesWith WrapsTo (to ∷ []) (Some bench_grease) file_key draws outcome left
    → IsDue (and_then (wrapped_by to file_key draws) (λ wrapped. finished file_key wrapped (left_by to draws))) outcome
with_due to file_key draws outcome left (gathered, between, (Err e, after, wraps, judges), rest) =
    let ended : Ends (Err e) between outcome left = rw judges.0 at rest in
    refused_due (wrapped_by to file_key draws) (λ wrapped. finished file_key wrapped (left_by to draws)) e outcome
    (answered to file_key draws (Err e) after wraps).is_due ended.0
with_due to file_key draws outcome left (gathered, between, (Ok wrapped, after, wraps, judges), rest) =
    let said = answered to file_key draws (Ok wrapped) after wraps in
    let is : Ok wrapped ≡ wrapped_by to file_key draws = made_due _ wrapped said.is_due in
    let one = said.one wrapped refl in
    let same : after ≡ left_by to draws = said.left_is wrapped refl in
    let on : UnlessNoMemory (Ends (Ok (gathered_by one.stanza one.labels)) after gathered between) after gathered between =
    subst (λ j. After j (λ more. WrapsInTurn WrapsTo file_key more []) after gathered between) (judged_one wrapped one) judges in
    let due : IsDue (finished file_key (record { stanzas = one.stanza ∷ []; labels = one.labels }) after) outcome =
    gathered_due file_key one.stanza one.labels after gathered between outcome left on rest in
    let of_wrapped : IsDue (finished file_key wrapped (left_by to draws)) outcome = rw (one.is, ← same) due in
    subst (λ d. IsDue (and_then d (λ wrapped. finished file_key wrapped (left_by to draws))) outcome) is of_wrapped

-- A file to TO is what the random bytes come to, or memory was refused.
pub prepared : (to : To) (draws : List ℕ) (outcome : Result Prepared EncryptRefusal) (left : List ℕ)
    → Prepares WrapsTo (to ∷ []) (Some bench_grease) draws outcome left → IsDue (prepared_by to draws) outcome
prepared to draws outcome left h =
    due_of_drawn (taken 16 draws) (λ file_key. PreparesWith WrapsTo (to ∷ []) (Some bench_grease) file_key (left_after 16 draws) outcome left)
    draws left outcome
    (λ file_key. and_then (wrapped_by to file_key (left_after 16 draws)) (λ wrapped. finished file_key wrapped (left_by to (left_after 16 draws))))
    (λ file_key on. with_due to file_key (left_after 16 draws) outcome left on) h

-- so it is the file that they come to
pub filed : (to : To) (draws plain : List ℕ) (file : Prepared) (left : List ℕ) → Prepares WrapsTo (to ∷ []) (Some bench_grease) draws (Ok file) left
    → file_by to draws plain ≡ Ok (file_text bench_seal file.file_key file.stanzas file.nonce plain)
filed to draws plain file left h = elim (prepared to draws (Ok file) left h) [
  | inl due ↦ ap (λ made. result_map_both (λ file. file_text bench_seal file.file_key file.stanzas file.nonce plain) (λ e. e) made) (sym due)
  | inr want ↦ no_refusal file OutOfMemory want
]

-- or the refusal
pub never_filed : (to : To) (draws : List ℕ) (refusal : EncryptRefusal) (left : List ℕ)
    → Prepares WrapsTo (to ∷ []) (Some bench_grease) draws (Err refusal) left
    → (refusal ≡ OutOfMemory) ⊎ ((plain : List ℕ) → file_by to draws plain ≡ Err refusal)
never_filed to draws refusal left h = elim (prepared to draws (Err refusal) left h) [
  | inl due ↦ inr (λ plain. ap (λ made. result_map_both (λ file. file_text bench_seal file.file_key file.stanzas file.nonce plain) (λ e. e) made)
      (sym due))
  | inr want ↦ inl (same_refusal {A = Prepared} refusal OutOfMemory want)
]
