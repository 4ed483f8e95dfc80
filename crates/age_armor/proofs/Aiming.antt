-- Where a seek in a text leads, over plain variables.
use Rattle.std.proofs.Common.{◌≡◌, ◌≢◌, ◌⊎◌, ◌∙◌, ℕ, ◌^◌, ◌<◌, ◌≤◌, ℤ, Bool, true, false, IsTrue, Result, Ok, Err, IfOk, IfErr, Option, Some, None, length, arith, sym, ap, subst, refl, inl, inr, nat_le, if◌then◌else◌, le-leb, leb-true}
use Rattle.std.proofs.lemmas.Bool.{cases_Bool, cases_lt, true≢false}
use Rattle.std.proofs.lemmas.Result.{IfOk-weaker, IfErr-weaker}
use Rattle.age_error.specs.Refusals.{IsDevice, IsInterruption}
use Rattle.age_error.specs.declared.io.Error.{Error}
use Rattle.age_error.specs.declared.io.Error.TheVariants.{OutOfMemory, BeforeStart, PastEnd, TooLong, Failed}
use Rattle.age_error.specs.declared.io.SeekFrom.{SeekFrom}
use Rattle.age_error.specs.declared.io.SeekFrom.TheVariants.{Start, End, Current}
use Rattle.age_io.specs.Stretch.{nothing, from_place}
use Rattle.age_io.specs.Reading.{IsQuiet, AddsNoReason}
use Rattle.age_io.specs.declared.traits.Read.{Ghosts}
use Rattle.age_io.specs.Keeping.{SameReader, KeepsReader, OrSeek}
use Rattle.age_io.specs.Cursor.{Seeks, IsOutside, moved_to, place_at, sought}
use Rattle.age_io.proofs.Keeping.{same-self, same-later, keeps-refused}
use Rattle.age_v1.specs.DeliveredArmor.{Ending, Clean, Refused, InnerFault, is_clean}
use Rattle.age_armor.specs.Stages.{NamesEnding}
use Rattle.age_armor.specs.Seeking.{OrAstray}
use Rattle.age_armor.specs.PrivateSeeking.{Goes, SeeksText, ComesBack}
use Rattle.age_armor.proofs.Keeping.{goes-unrefused}

-- ---- where a target leads

pub moved-within : (n len : ℕ) → n ≤ len → moved_to (Some n) len ≡ Ok n
moved-within n len within = rw (le-leb n len within) refl

le_past : (n len : ℕ) → len < n → nat_le n len ≡ false
le_past n len past = elim (cases_Bool (nat_le n len)) [
  | inl e ↦ let le = leb-true n len e in absurd (omega (arith, le, past))
  | inr e ↦ e
]

pub moved-past : (n len : ℕ) → len < n → moved_to (Some n) len ≡ Err PastEnd
moved-past n len past = rw (le_past n len past) refl

branch-within : (c : Bool) (m n : ℕ) → (if c then Ok m else Err PastEnd) ≡ Ok n → (c ≡ true) × (m ≡ n)
branch-within true m n e = (refl, cc e)
branch-within false m n e = absurd (cc e)

pub within-moved : (o : Option ℕ) (n len : ℕ) → moved_to o len ≡ Ok n → n ≤ len
within-moved None n len e = absurd (cc e)
within-moved (Some m) n len e =
    let parts = branch-within (nat_le m len) m n e in
    let le = leb-true m len parts.0 in
    let same : m ≡ n = parts.1 in
    omega (arith, le, same)

branch-refusal : (c : Bool) (m : ℕ) (e : Error) → (if c then Ok m else Err PastEnd) ≡ Err e → PastEnd ≡ e
branch-refusal true m e is = absurd (cc is)
branch-refusal false m e is = cc is

pub moved-refusal : (o : Option ℕ) (len : ℕ) (e : Error) → moved_to o len ≡ Err e → IsOutside e
moved-refusal None len e is = let same : BeforeStart ≡ e = cc is in subst IsOutside same tt
moved-refusal (Some m) len e is = subst IsOutside (branch-refusal (nat_le m len) m e is) tt

pub past-moved : (n len : ℕ) (e : Error) → moved_to (Some n) len ≡ Err e → len < n
past-moved n len e is = elim (cases_lt len n) [
  | inl past ↦ past
  | inr within ↦ absurd (cc (sym (moved-within n len within) ∙ is))
]

-- what was found from the end, where the distance is written in another way
pub from-end : (d e : ℤ) (len : ℕ) (r answer : Result ℕ Error) → d ≡ e → ((place : ℕ) → r ≡ sought (End d) place len) → r ≡ answer →
    (place : ℕ) → sought (End e) place len ≡ answer
from-end d e len r answer same exact is place = subst (λ d. sought (End d) place len ≡ answer) same (sym (exact place) ∙ is)

-- the same, where the length was known
pub from-known-end : (d e : ℤ) (known len : ℕ) (r : Result ℕ Error) → d ≡ e → known ≡ len → len < 2 ^ 63
    → (known < 2 ^ 63 → (place : ℕ) → r ≡ sought (End d) place known) →
    (place : ℕ) → r ≡ sought (End e) place len
from-known-end d e known len r same is fits exact place =
    subst (λ n. r ≡ sought (End e) place n) is (sym (from-end d e known r r same (exact (omega (arith, is, fits))) refl place))

-- a target that was moved to is within, and any other is outside
pub aims_within : (r : Result ℕ Error) (t : Option ℕ) (len : ℕ) → r ≡ moved_to t len → IfOk r (λ n. n ≤ len)
aims_within (Ok n) t len is = within-moved t n len (sym is)
aims_within (Err e) t len is = tt

pub aims_outside : (r : Result ℕ Error) (t : Option ℕ) (len : ℕ) → r ≡ moved_to t len → IfErr r IsOutside
aims_outside (Ok n) t len is = tt
aims_outside (Err e) t len is = moved-refusal t len e (sym is)

-- ---- errors

pub refusal_or_not : (e : Error) → IsOutside e ⊎ (IsOutside e → ⊥)
refusal_or_not BeforeStart = inl tt
refusal_or_not PastEnd = inl tt
refusal_or_not _ = inr (λ is. is)

pub refusal-device : (e : Error) → IsOutside e → IsDevice e → ⊥
refusal-device BeforeStart is device = device
refusal-device PastEnd is device = device
refusal-device _ is device = is

pub refusal-interruption : (e : Error) → IsOutside e → IsInterruption e → ⊥
refusal-interruption BeforeStart is interruption = interruption
refusal-interruption PastEnd is interruption = interruption
refusal-interruption _ is interruption = is

pub clean-unnamed : (ending : Ending) (e : Error) → IsTrue (is_clean ending) → NamesEnding ending e → ⊥
clean-unnamed Clean e clean named = named
clean-unnamed (Refused f) e clean named = true≢false (sym clean)
clean-unnamed InnerFault e clean named = true≢false (sym clean)

-- ---- a whole seek

-- the count of faults stays the same in each part, where it does in the whole
pub quiet-first : (a b c : ℕ) → a ≤ b → b ≤ c → IsQuiet a c → IsQuiet a b
quiet-first a b c first last quiet = record {
  same = omega (arith, first, last, quiet.same);
  below = omega (arith, first, last, quiet.same, quiet.below);
}

module _ {R : Type 0} (read : Ghosts R) (failed : R → Bool) (below : Error → Type 0) where
  -- what only seeks refuse with
  abbrev own : Error → Type 0
  own = OrAstray below

  -- a refusal that isn't an interruption
  pub seeks-refused : (old new : R) (to : SeekFrom) (e : Error) → KeepsReader {T = ℕ} read (OrSeek own read.refuses) old new (Err e) →
      (IsOutside e → AddsNoReason read.refuses old new) → (IsTrue (read.tells old) → read.place new ≡ read.place old) →
      (IsTrue (read.tells old) → IsTrue (read.steady old) → read.rest old ≡ from_place (read.place old) (read.content old) → IsOutside e
      → read.rest new ≡ read.rest old) →
      (IsTrue (read.tells old) → IsTrue (read.content old).ends_well → IsOutside e
      → sought to (read.place old) (length (read.content old).bytes) ≡ Err e) →
      (IsTrue (read.tells old) → IsTrue (read.content old).ends_well → e ≢ OutOfMemory → IsQuiet (read.faults old) (read.faults new) → IsOutside e) →
      Seeks read.tells read.steady read.content read.place read.rest read.faults read.refuses own old new to (Err e)
  seeks-refused old new to e keeps missed stays kept refused cause = record {
    same_tells = keeps.same.tells;
    same_steady = keeps.same.steady;
    no_fewer_faults = keeps.same.faults;
    device = keeps.device;
    unspent = tt;
    why = keeps.why;
    narrows = tt;
    again = λ interruption. absurd (keeps.patient interruption);
    missed = missed;
    same_content = keeps.same.content;
    arrives = λ told. tt;
    leads = λ told. tt;
    stays = stays;
    interrupted = λ told interruption. absurd (keeps.patient interruption);
    moves = λ told steady. tt;
    kept = kept;
    refused = refused;
    cause = cause;
  }

  -- a reader that had failed, or an error that doesn't refuse a seek
  pub stays-failed : (old new : R) (stood : ℕ) (had : Bool) (error : Error) → SameReader read old new → read.place new ≡ stood → failed new ≡ true →
      read.rest new ≡ nothing → ((e : Error) → read.refuses new e → (e ≡ Failed) ⊎ read.refuses old e) → ((had ≡ true) ⊎ (IsOutside error → ⊥)) →
      ComesBack read failed own old new stood had error error
  stays-failed old new stood had error same stands fails gone more why = record {
    same = same;
    device = λ no device. absurd (no device);
    patient = λ no interruption. no interruption;
    fails = λ own. fails;
    unmoved = λ refusal. elim why [ inl had_failed ↦ (refusal, refl, fails ∙ sym had_failed) | inr not ↦ absurd (not refusal) ];
    other = λ own. refl;
    gone = λ had. gone;
    why = λ refusal. inl (inl refusal);
    narrows = λ refusal e h. elim why [
      | inl had_failed ↦ elim (more e h) [ inl is ↦ inl (had_failed, is) | inr earlier ↦ inr earlier ]
      | inr not ↦ absurd (not refusal)
    ];
    stays = λ told. stands;
    back = λ told is_steady fine refusal. elim why [ inl had_failed ↦ absurd (true≢false (sym had_failed ∙ fine)) | inr not ↦ absurd (not refusal) ];
    cause = λ told well refusal other quiet. refusal;
  }

  pub came : (old new : R) (stood : ℕ) (had : Bool) (error : Error) → SameReader read old new → failed new ≡ false →
      (IsTrue (read.tells old) → read.place new ≡ stood)
      → (IsTrue (read.tells old) → IsTrue (read.steady old) → read.rest new ≡ from_place stood (read.content old)) →
      had ≡ false → IsOutside error → AddsNoReason read.refuses old new → ComesBack read failed own old new stood had error error
  came old new stood had error same good stands back good_before is narrows = record {
    same = same;
    device = λ no device. absurd (no device);
    patient = λ no interruption. no interruption;
    fails = λ own. absurd (own is);
    unmoved = λ refusal. (refusal, refl, good ∙ sym good_before);
    other = λ own. refl;
    gone = λ had_failed. absurd (true≢false (sym had_failed ∙ good_before));
    why = λ refusal. inl (inl refusal);
    narrows = λ refusal e h. inr (narrows e h);
    stays = stands;
    back = λ told is_steady had refusal. back told is_steady;
    cause = λ told well refusal other quiet. refusal;
  }

  pub lost : (old middle new : R) (stood : ℕ) (had : Bool) (error e answer : Error)
      → Goes {A = ℕ} read (OrSeek own read.refuses) old middle (Err e) → SameReader read middle new →
      read.place new ≡ stood → failed new ≡ true → read.rest new ≡ nothing → IsOutside error →
      (IsOutside answer → ⊥) → (answer ≢ Failed → answer ≡ e) →
      (IsTrue (read.tells old) → IsTrue (read.content old).ends_well → answer ≢ OutOfMemory → IsQuiet (read.faults old) (read.faults middle) → ⊥) →
      ComesBack read failed own old new stood had error answer
  lost old middle new stood had error e answer goes same stands fails gone is own kept never =
      let keeps = (goes-unrefused read {T = ℕ} {U = ℕ} below read.refuses old middle e answer kept goes).keeps in
      record {
        same = same-later read old middle new keeps.same same;
        device = λ no device. omega (arith, same.faults, keeps.device device);
        patient = λ no interruption. keeps.patient interruption;
        fails = λ other. fails;
        unmoved = λ refusal. absurd (own refusal);
        other = λ not. absurd (not is);
        gone = λ had_failed. gone;
        why = λ refusal. keeps.why;
        narrows = λ refusal. absurd (own refusal);
        stays = λ told. stands;
        back = λ told is_steady fine refusal. absurd (own refusal);
        cause = λ told well refusal other quiet. absurd (never told well other (quiet-first _ _ _ keeps.same.faults same.faults quiet));
      }

  pub too-long : (old new : R) (to : SeekFrom) (ends_well : Bool) (ending : Ending) → SameReader read old new →
      failed new ≡ true → (IsTrue (read.tells old) → ⊥) → SeeksText read failed own old new to ends_well ending (Err TooLong)
  too-long old new to ends_well ending same fails untold = record {
    seeks = seeks-refused old new to TooLong
        (keeps-refused read (OrSeek own read.refuses) old new TooLong same (λ device. device) (inl (inr (inl refl))))
        (λ refusal. absurd refusal) (λ told. absurd (untold told)) (λ told. absurd (untold told)) (λ told. absurd (untold told))
        (λ told. absurd (untold told));
    patient = λ interruption. interruption;
    good = tt;
    unmoved = λ refusal. absurd refusal;
    fails = λ own. fails;
    named = λ told. absurd (untold told);
    early = λ told. absurd (untold told);
  }

  pub too-early : (old : R) (d : ℤ) (ends_well : Bool) (ending : Ending) → place_at (read.place old) d ≡ None →
      SeeksText read failed own old old (Current d) ends_well ending (Err BeforeStart)
  too-early old d ends_well ending none = record {
    seeks = seeks-refused old old (Current d) BeforeStart
        (keeps-refused read (OrSeek own read.refuses) old old BeforeStart (same-self read old) (λ device. device) (inl (inl tt)))
        (λ refusal e h. h) (λ told. refl) (λ told is_steady stands refusal. refl)
        (λ told well refusal. ap (λ o. moved_to o (length (read.content old).bytes)) none)
        (λ told well other quiet. tt);
    patient = λ interruption. interruption;
    good = tt;
    unmoved = λ refusal. refl;
    fails = λ own. absurd (own tt);
    named = λ told well own. absurd (own tt);
    early = λ told is_steady badly refusal. (refl, none);
  }

  pub counted-on : (old new : R) (d : ℤ) (t : ℕ) (ends_well : Bool) (ending : Ending) (r : Result ℕ Error) → place_at (read.place old) d ≡ Some t →
      SeeksText read failed own old new (Start t) ends_well ending r →
      SeeksText read failed own old new (Current d) ends_well ending r
  counted-on old new d t ends_well ending r is text =
      let seeks = text.seeks in
      let len = length (read.content old).bytes in
      let same : sought (Start t) (read.place old) len ≡ sought (Current d) (read.place old) len = ap (λ o. moved_to o len) (sym is) in
      record {
        seeks = record {
          same_tells = seeks.same_tells;
          same_steady = seeks.same_steady;
          no_fewer_faults = seeks.no_fewer_faults;
          device = seeks.device;
          unspent = seeks.unspent;
          why = seeks.why;
          narrows = seeks.narrows;
          again = seeks.again;
          missed = seeks.missed;
          same_content = seeks.same_content;
          arrives = seeks.arrives;
          leads = λ told. IfOk-weaker r _ _ (λ n there. is ∙ ap Some (sym there)) (seeks.leads told);
          stays = seeks.stays;
          interrupted = seeks.interrupted;
          moves = λ told is_steady. IfOk-weaker r _ _ (λ n moved. (sym same ∙ moved.0, moved.1)) (seeks.moves told is_steady);
          kept = seeks.kept;
          refused = λ told well. IfErr-weaker r _ _ (λ e refused refusal. sym same ∙ refused refusal) (seeks.refused told well);
          cause = seeks.cause;
        };
        patient = text.patient;
        good = text.good;
        unmoved = text.unmoved;
        fails = text.fails;
        named = λ told well. IfErr-weaker r _ _ (λ e named own other quiet.
            let parts = named own other quiet in (
              parts.0,
              λ n leads. let same_target : Some t ≡ Some n = sym is ∙ leads in let at : t ≡ n = cc same_target in
                  subst (λ m. len < m) at parts.1,
            ))
            (text.named told well);
        early = λ told is_steady badly. IfErr-weaker r _ _ (λ e early refusal. absurd (early refusal).1) (text.early told is_steady badly);
      }
