-- Files hold the answers of their recipients, and identities find them there.
use Rattle.std.specs.Prelude.{◌≡◌, ℕ, ◌≤◌, Bool, true, false, List, [], ◌∷◌, ◌++◌, Option, None, Some, Result, Ok, Err, All, IsTrue, length, take, if◌then◌else◌, nat_eq, nat_le, refl, MatchOption}
use Rattle.std.specs.List.{AllZip}
use Rattle.std.proofs.Common.{◌∙◌, sym, ap, subst, inl, inr, append_assoc, append-nil, leb-true}
use Rattle.std.proofs.lemmas.List.{length-take-le}
use Rattle.std.proofs.lemmas.List.Elements.{All-nil, All-head, All-tail, All-append}
use Rattle.age_error.specs.EncryptErrors.{EncryptRefusal, ShortRandom, OutOfMemory}
use Rattle.age_v1.specs.Stanza.{StanzaValue}
use Rattle.age_v1.specs.Recipients.{WrapAnswer, Wrapped, Labels, Gathered, nothing_yet, has_scrypt, agreed_labels, judged, with_labels, greased, closed}
use Rattle.age_v1.specs.Identities.{UnwrapAnswer, Unwraps}
use Rattle.age_v1.specs.Payload.{Seal}
use Rattle.age_suite.specs.Draw.{taken, left_after}
use Rattle.age_v1.specs.Encrypting.{UnlessNoMemory, Ends, OnSuccess, After, Prepared, PreparesWith, PreparesRest, PreparesNonce, WrapsInTurn}
use Rattle.age_v1.specs.Belonging.{MayWrap}
use Rattle.age_format.proofs.Outcomes.{same_value, no_refusal}
use Rattle.age_protocol.specs.Several.{stanzas_of, grease_beside, HoldsAnswers, HoldAnswers, WrapsStrange, OneDecrypts, AnyDecrypts}
use Rattle.age_protocol.proofs.Alone.{alone_asked}

some_same : {A : Type 0} (x y : A) → Path (Option A) (Some x) (Some y) → x ≡ y
some_same x y is = cc

none_given : {X : Type 0} (bytes : List ℕ) → Path (Option (List ℕ)) None (Some bytes) → X
none_given bytes is = absurd (Prim.cc)

long : (draws : List ℕ) → 16 ≤ length draws → (bytes : List ℕ) → Path (Option (List ℕ)) (Some (take 16 draws)) (Some bytes) → length bytes ≡ 16
long draws le bytes is =
    let same : bytes ≡ take 16 draws = some_same bytes (take 16 draws) (sym is) in
    ap length same ∙ length-take-le 16 draws le

taken_length : (enough : Bool) (draws : List ℕ) → nat_le 16 (length draws) ≡ enough → (bytes : List ℕ)
    → taken 16 draws ≡ Some bytes → length bytes ≡ 16
taken_length true draws is bytes given = long draws (leb-true 16 (length draws) is) bytes (rw is at given)
taken_length false draws is bytes given = none_given bytes (rw is at given)

-- ---- the rules on the stanzas once all have answered

greased_order : (stanzas : List StanzaValue) (grease : Option StanzaValue) (all : List StanzaValue) → greased stanzas grease ≡ Ok all
    → all ≡ stanzas ++ grease_beside false grease
greased_order [] None all is = no_refusal all _ (sym is)
greased_order (s ∷ stanzas) None all is = sym (same_value (s ∷ stanzas) all is) ∙ sym (append-nil (s ∷ stanzas))
greased_order stanzas (Some grease) all is = sym (same_value (stanzas ++ grease ∷ []) all is)

closed_by : (passphrase single : Bool) (stanzas : List StanzaValue) (grease : Option StanzaValue) (all : List StanzaValue) (e : EncryptRefusal)
    → ◌≡◌ {A = Result (List StanzaValue) EncryptRefusal} (if passphrase then (if single then Ok stanzas else Err e) else greased stanzas grease)
    (Ok all)
    → all ≡ stanzas ++ grease_beside passphrase grease
closed_by true true stanzas grease all e is = sym (same_value stanzas all is) ∙ sym (append-nil stanzas)
closed_by true false stanzas grease all e is = no_refusal all e (sym is)
closed_by false single stanzas grease all e is = greased_order stanzas grease all is

closed_order : (labels : Option Labels) (stanzas : List StanzaValue) (grease : Option StanzaValue) (all : List StanzaValue)
    → closed labels stanzas grease ≡ Ok all → all ≡ stanzas ++ grease_beside (has_scrypt stanzas) grease
closed_order None stanzas grease all is = no_refusal all _ (sym is)
closed_order (Some labels) stanzas grease all is = closed_by (has_scrypt stanzas) (nat_eq (length stanzas) 1) stanzas grease all _ is

-- ---- what was prepared

after_nonce : (nonce : Option (List ℕ)) (file_key : List ℕ) (stanzas : List StanzaValue) (file : Prepared) (draws rest left : List ℕ)
    → MatchOption nonce (Ends (Err ShortRandom) draws (Ok file) left)
    (λ bytes. UnlessNoMemory (Ends (Ok (record { file_key = file_key; stanzas = stanzas; nonce = bytes })) rest (Ok file) left) rest (Ok file) left)
    → (file.file_key ≡ file_key) × (file.stanzas ≡ stanzas)
after_nonce None file_key stanzas file draws rest left short = no_refusal file ShortRandom short.0
after_nonce (Some bytes) file_key stanzas file draws rest left (inl made) =
    let is = same_value file (record { file_key = file_key; stanzas = stanzas; nonce = bytes }) made.0 in
    (ap (λ f. f.file_key) is, ap (λ f. f.stanzas) is)
after_nonce (Some bytes) file_key stanzas file draws rest left (inr want) = no_refusal file OutOfMemory want.0

after_closed : (all : Result (List StanzaValue) EncryptRefusal) (file_key : List ℕ) (file : Prepared) (draws left : List ℕ)
    → After all (λ stanzas. PreparesNonce file_key stanzas) draws (Ok file) left
    → (stanzas : List StanzaValue) × (all ≡ Ok stanzas) × (file.file_key ≡ file_key) × (file.stanzas ≡ stanzas)
after_closed (Err e) file_key file draws left ended = no_refusal file e ended.0
after_closed (Ok stanzas) file_key file draws left (inl goes_on) =
    let (same_key, same_stanzas) = after_nonce (taken 16 draws) file_key stanzas file draws (left_after 16 draws) left goes_on in
    (stanzas, refl, same_key, same_stanzas)
after_closed (Ok stanzas) file_key file draws left (inr want) = no_refusal file OutOfMemory want.0

-- ---- the answers in turn

after_labels : (agreed : Result Labels EncryptRefusal) (stanzas : List StanzaValue) (all : Gathered)
    (goes_on : Gathered → List ℕ → Result Gathered EncryptRefusal → List ℕ → Type 0) (draws left : List ℕ)
    → After (with_labels stanzas agreed) goes_on draws (Ok all) left
    → (more : Gathered) × (more.stanzas ≡ stanzas) × goes_on more draws (Ok all) left
after_labels (Err e) stanzas all goes_on draws left ended = no_refusal all e ended.0
after_labels (Ok labels) stanzas all goes_on draws left (inl more) = (record { labels = Some labels; stanzas = stanzas }, refl, more)
after_labels (Ok labels) stanzas all goes_on draws left (inr want) = no_refusal all OutOfMemory want.0

-- ---- one identity

pub one_decrypts : {I : Type 0} (unwraps : I → List StanzaValue → UnwrapAnswer → I → Type 0) (seal_of : Seal) → OneDecrypts unwraps seal_of
one_decrypts unwraps seal_of identity file_key stanzas plain text own is_file bytes within last = record {
  file_key = file_key;
  stanzas = stanzas;
  is_file = is_file;
  bytes = bytes;
  within = within;
  last = last;
  right = λ answer asked.
      let (after, answers) = alone_asked (λ i a t. Unwraps unwraps i stanzas a t) identity answer asked.0 asked.1 in
      own answer after answers;
}

module _ {R : Type 0} (wraps : R → List ℕ → List ℕ → WrapAnswer → List ℕ → Type 0) where
  after_answer : (file_key : List ℕ) (so_far : Gathered) (r : R) (answer : WrapAnswer) (all : Gathered)
      (goes_on : Gathered → List ℕ → Result Gathered EncryptRefusal → List ℕ → Type 0) (draws between left : List ℕ)
      → wraps r file_key draws answer between → After (judged so_far answer) goes_on between (Ok all) left
      → (wrapped : Wrapped) × (more : Gathered) × MayWrap wraps file_key r wrapped × (more.stanzas ≡ so_far.stanzas ++ wrapped.stanzas)
      × goes_on more between (Ok all) left
  after_answer file_key so_far r (Err e) all goes_on draws between left wraps_so ended = no_refusal all e ended.0
  after_answer file_key so_far r (Ok wrapped) all goes_on draws between left wraps_so after =
      let stanzas = so_far.stanzas ++ wrapped.stanzas in
      let (more, is, next) = after_labels (agreed_labels so_far.labels wrapped.labels (has_scrypt stanzas)) stanzas all goes_on between left after in
      (wrapped, more, (draws, between, wraps_so), is, next)

  in_turn : (file_key : List ℕ) (so_far : Gathered) (recipients : List R) (draws : List ℕ) (all : Gathered) (left : List ℕ)
      → WrapsInTurn wraps file_key so_far recipients draws (Ok all) left
      → (answers : List Wrapped) × AllZip (MayWrap wraps file_key) recipients answers × (all.stanzas ≡ so_far.stanzas ++ stanzas_of answers)
  in_turn file_key so_far [] draws all left ended =
      ([], tt, ap (λ g. g.stanzas) (same_value all so_far ended.0) ∙ sym (append-nil so_far.stanzas))
  in_turn file_key so_far (r ∷ rs) draws all left turn =
      let (wrapped, more, wraps_so, grown, next) =
      after_answer file_key so_far r turn.0 all (λ g. WrapsInTurn wraps file_key g rs) draws turn.1 left turn.2 turn.3 in
      let (answers, each, is) = in_turn file_key more rs turn.1 all left next in (
        wrapped ∷ answers,
        (wraps_so, each),
        is ∙ ap (λ l. l ++ stanzas_of answers) grown ∙ append_assoc so_far.stanzas wrapped.stanzas (stanzas_of answers),
      )

  after_all : (gathered : Result Gathered EncryptRefusal) (recipients : List R) (grease : Option StanzaValue) (file_key : List ℕ) (file : Prepared)
      (draws between left : List ℕ) → length file_key ≡ 16 → WrapsInTurn wraps file_key nothing_yet recipients draws gathered between
      → OnSuccess gathered (λ all. PreparesRest file_key grease all) between (Ok file) left → HoldsAnswers wraps recipients grease file
  after_all (Err e) recipients grease file_key file draws between left sixteen turn ended = no_refusal file e ended.0
  after_all (Ok all) recipients grease file_key file draws between left sixteen turn rest =
      let (answers, each, are) = in_turn file_key nothing_yet recipients draws all between turn in
      let (stanzas, is, same_key, same_stanzas) = after_closed (closed all.labels all.stanzas grease) file_key file between left rest in
      let order : stanzas ≡ all.stanzas ++ grease_beside (has_scrypt all.stanzas) grease = closed_order all.labels all.stanzas grease stanzas is in
      record {
        sixteen = ap length same_key ∙ sixteen;
        answers = answers;
        each = subst (λ key. AllZip (MayWrap wraps key) recipients answers) (sym same_key) each;
        in_order = same_stanzas ∙ subst (λ l. stanzas ≡ l ++ grease_beside (has_scrypt l) grease) are order;
      }

  with_key : (key : Option (List ℕ)) (recipients : List R) (grease : Option StanzaValue) (draws rest left : List ℕ) (file : Prepared)
      → ((bytes : List ℕ) → key ≡ Some bytes → length bytes ≡ 16)
      → MatchOption key (Ends (Err ShortRandom) draws (Ok file) left) (λ bytes. PreparesWith wraps recipients grease bytes rest (Ok file) left)
      → HoldsAnswers wraps recipients grease file
  with_key None recipients grease draws rest left file sixteen short = no_refusal file ShortRandom short.0
  with_key (Some bytes) recipients grease draws rest left file sixteen prepares =
      after_all prepares.0 recipients grease bytes file rest prepares.1 left (sixteen bytes refl) prepares.2 prepares.3

  pub hold_answers : HoldAnswers wraps
  hold_answers recipients grease draws left file prepares =
      with_key (taken 16 draws) recipients grease draws (left_after 16 draws) left file
      (λ bytes given. taken_length (nat_le 16 (length draws)) draws refl bytes given) prepares

  -- ---- the stanzas of one among several

  module _ {I : Type 0} (unwraps : I → List StanzaValue → UnwrapAnswer → I → Type 0) (is_strange : StanzaValue → Bool) where
    abbrev AreStrange : List StanzaValue → Type 0
    AreStrange stanzas = All (λ s. IsTrue (is_strange s)) stanzas

    found : (file_key : List ℕ) (front : List R) (recipient : R) (back : List R) (answers : List Wrapped) → length file_key ≡ 16
        → AllZip (MayWrap wraps file_key) (front ++ recipient ∷ back) answers → All (WrapsStrange wraps is_strange) front
        → (before : List StanzaValue) × (wrapped : Wrapped) × (later : List StanzaValue) × MayWrap wraps file_key recipient wrapped
        × AreStrange before
        × (stanzas_of answers ≡ before ++ (wrapped.stanzas ++ later))
    found file_key [] recipient back [] sixteen each strange = absurd each
    found file_key [] recipient back (a ∷ answers) sixteen each strange =
        ([], a, stanzas_of answers, each.0, All-nil (λ s. IsTrue (is_strange s)), refl)
    found file_key (r ∷ front) recipient back [] sixteen each strange = absurd each
    found file_key (r ∷ front) recipient back (a ∷ answers) sixteen each strange =
        let (before, wrapped, later, wraps_so, passed, is) =
        found file_key front recipient back answers sixteen each.1 (All-tail (WrapsStrange wraps is_strange) r front strange) in (
          a.stanzas ++ before,
          wrapped,
          later,
          wraps_so,
          All-append (λ s. IsTrue (is_strange s)) a.stanzas before
              (All-head (WrapsStrange wraps is_strange) r front strange file_key a sixteen each.0) passed,
          ap (λ l. a.stanzas ++ l) is ∙ sym (append_assoc a.stanzas before (wrapped.stanzas ++ later)),
        )

  pub any_decrypts : {I : Type 0} (unwraps : I → List StanzaValue → UnwrapAnswer → I → Type 0) (seal_of : Seal) → AnyDecrypts wraps unwraps seal_of
  any_decrypts unwraps seal_of recipients identity grease draws left file plain text one prepares is_file bytes within last =
      let holds = hold_answers recipients grease draws left file prepares in
      let each : AllZip (MayWrap wraps file.file_key) (one.front ++ one.recipient ∷ one.back) holds.answers =
      subst (λ l. AllZip (MayWrap wraps file.file_key) l holds.answers) one.all holds.each in
      let (before, wrapped, later, wraps_so, passed, is) =
      found unwraps one.is_strange file.file_key one.front one.recipient one.back holds.answers holds.sixteen each one.strange in
      let rest : List StanzaValue = grease_beside (has_scrypt (stanzas_of holds.answers)) grease in
      let are : file.stanzas ≡ before ++ (wrapped.stanzas ++ (later ++ rest)) =
      holds.in_order ∙ ap (λ l. l ++ rest) is ∙ append_assoc before (wrapped.stanzas ++ later) rest
      ∙ ap (λ l. before ++ l) (append_assoc wrapped.stanzas later rest) in
      one_decrypts unwraps seal_of identity file.file_key file.stanzas plain text
      (λ answer after own.
      one.belongs file.file_key wrapped before (later ++ rest) answer after holds.sixteen wraps_so passed
      (subst (λ l. Unwraps unwraps identity l answer after) are own)) is_file bytes within last
