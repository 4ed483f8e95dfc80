-- Why reading a text refuses, over a step.
use Rattle.std.proofs.Common.{◌≡◌, ◌≢◌, ◌⊎◌, ◌∙◌, ◌-◌, ◌≤◌, ◌<◌, ℕ, Bool, IsTrue, Ok, Err, Result, inl, inr, refl, sym, ap, subst, arith}
use Rattle.std.proofs.lemmas.Bool.{cases_Bool, true≢false}
use Rattle.age_error.specs.Refusals.{IsDevice, IsInterruption}
use Rattle.age_error.specs.declared.io.Error.{Error}
use Rattle.age_error.specs.declared.io.Error.TheVariants.{Device, UnexpectedEof, TooLong, Armor, OutOfMemory, Failed}
use Rattle.age_error.specs.declared.io.ErrorKind.TheVariants.{Interrupted}
use Rattle.age_io.specs.Reading.{AddsNoReason, TriedAgain, StandsIn, most_faults}
use Rattle.age_io.specs.Keeping.{SameReader}
use Rattle.age_io.specs.declared.traits.Read.{Ghosts}
use Rattle.age_io.proofs.Keeping.{keeps-done, keeps-later, keeps-refused, same-later, same-self}
use Rattle.age_armor.specs.PrivateCounting.{Kept}
use Rattle.age_armor.specs.PrivateShowing.{AsksReader}
use Rattle.age_v1.specs.DeliveredArmor.{Ending, Outcome, Refused, ends_in}
use Rattle.age_armor.specs.PrivateRefusing.{IsTextRefusal, OrTextRefusal}
use Rattle.age_armor.specs.Refusing.{IsOwnRefusal, OrEnd, OrWant}

-- ---- an error

-- of a text of which less is known
pub text-wider : (told steady well told_before steady_before well_before : Bool) (e : Error) → (IsTrue told_before → IsTrue told) →
    (IsTrue steady_before → IsTrue steady) → (IsTrue told_before → IsTrue well → IsTrue well_before) →
    IsTextRefusal told steady well e → IsTextRefusal told_before steady_before well_before e
text-wider told steady well told_before steady_before well_before (Armor fault) tells stays ends h = tt
text-wider told steady well told_before steady_before well_before OutOfMemory tells stays ends h = tt
text-wider told steady well told_before steady_before well_before UnexpectedEof tells stays ends h = λ t s. ends t (h (tells t) (stays s))
text-wider told steady well told_before steady_before well_before TooLong tells stays ends h = λ t. h (tells t)
text-wider told steady well told_before steady_before well_before _ tells stays ends h = absurd h

-- ---- an error of a text of which it is known how it ends

pub own-patient : (tells steady : Bool) (ending : Ending) (e : Error) → IsOwnRefusal tells steady ending e → IsInterruption e → ⊥
own-patient tells steady ending (Device kind) h is = h
own-patient tells steady ending _ h is = is

-- of a text of which less is known
pub own-wider : (told steady told_before steady_before : Bool) (ending before : Ending) (e : Error) → (IsTrue told_before → IsTrue told) →
    (IsTrue steady_before → IsTrue steady) → (IsTrue told_before → ending ≡ before) →
    IsOwnRefusal told steady ending e → IsOwnRefusal told_before steady_before before e
own-wider told steady told_before steady_before ending before (Armor fault) tells stays same h = λ t s. sym (same t) ∙ h (tells t) (stays s)
own-wider told steady told_before steady_before ending before OutOfMemory tells stays same h = tt
own-wider told steady told_before steady_before ending before UnexpectedEof tells stays same h = λ t s. sym (same t) ∙ h (tells t) (stays s)
own-wider told steady told_before steady_before ending before TooLong tells stays same h = λ t. h (tells t)
own-wider told steady told_before steady_before ending before _ tells stays same h = absurd h

own-of : (tells steady well : Bool) (ending : Ending) (e : Error) → IsTextRefusal tells steady well e →
    (IsTrue tells → IsTrue steady → ending ≡ Refused e) → IsOwnRefusal tells steady ending e
own-of tells steady well ending (Armor fault) h ends = ends
own-of tells steady well ending OutOfMemory h ends = tt
own-of tells steady well ending UnexpectedEof h ends = ends
own-of tells steady well ending TooLong h ends = h
own-of tells steady well ending _ h ends = absurd h

-- the text's own, or none of it
own-or : {X : Type 0} (tells steady well : Bool) (ending : Ending) (e : Error) → IsTextRefusal tells steady well e →
    (IsTrue tells → IsTrue steady → (e ≡ OutOfMemory) ⊎ (ending ≡ Refused e) ⊎ X) → IsOwnRefusal tells steady ending e ⊎ X
own-or tells steady well ending e text why = elim (cases_Bool tells) [
  | inl told ↦ elim (cases_Bool steady) [
    | inl is ↦ elim (why told is) [
      | inl memory ↦ inl (subst (IsOwnRefusal tells steady ending) (sym memory) tt)
      | inr rest ↦ elim rest [ inl end ↦ inl (own-of tells steady well ending e text (λ t s. end)) | inr other ↦ inr other ]
    ]
    | inr not ↦ inl (own-of tells steady well ending e text (λ t s. absurd (true≢false (sym s ∙ not))))
  ]
  | inr not ↦ inl (own-of tells steady well ending e text (λ t s. absurd (true≢false (sym t ∙ not))))
]

memory-or-not : (e : Error) → (e ≡ OutOfMemory) ⊎ (e ≢ OutOfMemory)
memory-or-not OutOfMemory = inl refl
memory-or-not _ = inr (λ is. cc is)

-- what `unrefused` makes of an error
pub failed-or-kept : (e answer : Error) → (answer ≢ Failed → answer ≡ e) → (answer ≡ Failed) ⊎ (answer ≡ e)
failed-or-kept e Failed kept = inl refl
failed-or-kept e _ kept = inr (kept (λ is. cc is))

-- ---- a reader of a text

module _ {R : Type 0} (read : Ghosts R) where
  -- a step that adds no reason to refuse
  pub text-narrows : (a b : R) → SameReader read a b → AddsNoReason (TriedAgain read.refuses) a b → AddsNoReason (OrTextRefusal read) a b
  text-narrows a b same narrows e h = elim h [
    | inl own ↦ inl (text-wider _ _ _ (read.tells a) (read.steady a) (read.content a).ends_well e (λ told. same.tells ∙ told)
        (λ steady. same.steady ∙ steady)
        (λ told well. subst (λ s. IsTrue s.ends_well) (same.content told) well) own)
    | inr tried ↦ inr (narrows e tried)
  ]

  -- a call that asks for bytes, after such a step
  pub text-asked : (a b : R) (e : Error) → AddsNoReason (TriedAgain read.refuses) a b → (e ≢ OutOfMemory → TriedAgain read.refuses b e)
      → OrTextRefusal read a e
  text-asked a b e narrows why = elim (memory-or-not e) [
    | inl is ↦ inl (subst (IsTextRefusal (read.tells a) (read.steady a) (read.content a).ends_well) (sym is) tt)
    | inr other ↦ inr (narrows e (why other))
  ]

  -- whatever is left of the text then
  pub end-asked : (a : R) (left : Outcome) (e : Error) → (e ≢ OutOfMemory → TriedAgain read.refuses a e) → OrEnd read a left e
  end-asked a left e why = elim (memory-or-not e) [ inl is ↦ inl is | inr other ↦ inr (inr (why other)) ]

  pub want-narrows : (a b : R) → AddsNoReason (TriedAgain read.refuses) a b → AddsNoReason (OrWant read) a b
  want-narrows a b narrows e h = elim h [ inl is ↦ inl is | inr tried ↦ inr (narrows e tried) ]

  pub want-asked : (a : R) (e : Error) → (e ≢ OutOfMemory → TriedAgain read.refuses a e) → OrWant read a e
  want-asked a e why = elim (memory-or-not e) [ inl is ↦ inl is | inr other ↦ inr (why other) ]

  -- however the text ends
  pub want-own : (a : R) (ending : Ending) (e : Error) → OrWant read a e
      → IsOwnRefusal (read.tells a) (read.steady a) ending e ⊎ TriedAgain read.refuses a e
  want-own a ending e why = elim why [
    | inl is ↦ inl (subst (IsOwnRefusal (read.tells a) (read.steady a) ending) (sym is) tt)
    | inr tried ↦ inr tried
  ]

  -- the text's own, where nothing is left but its end
  pub text-own : (a : R) (left : Outcome) (ending : Ending) (e : Error) → OrTextRefusal read a e → (IsTrue (read.tells a) → OrEnd read a left e) →
      (IsTrue (read.tells a) → IsTrue (read.steady a) → left ≡ ends_in (Refused e) → ending ≡ Refused e) →
      IsOwnRefusal (read.tells a) (read.steady a) ending e ⊎ TriedAgain read.refuses a e
  text-own a left ending e text why ends = elim text [
    | inl own ↦ own-or (read.tells a) (read.steady a) (read.content a).ends_well ending e own (λ told steady. elim (why told) [
      | inl memory ↦ inl memory
      | inr rest ↦ elim rest [ inl end ↦ inr (inl (ends told steady end)) | inr tried ↦ inr (inr tried) ]
    ])
    | inr tried ↦ inr tried
  ]

  -- a step that adds no reason to refuse and gives nothing
  pub end-later : (a b : R) (left next : Outcome) (e : Error) → AddsNoReason (TriedAgain read.refuses) a b → left ≡ next → OrEnd read b next e →
      OrEnd read a left e
  end-later a b left next e narrows same why = elim why [
    | inl memory ↦ inl memory
    | inr rest ↦ elim rest [ inl end ↦ inr (inl (same ∙ end)) | inr tried ↦ inr (inr (narrows e tried)) ]
  ]

  -- a step, and then a call
  pub kept-on : {B : Type 0} (result : Result B Error) (a b c : R) (k l m : ℕ) → SameReader read a b → AddsNoReason (TriedAgain read.refuses) a b →
      (IsTrue (read.tells a) → read.place b - l ≡ read.place a - k) → (IsTrue (read.tells a) → k ≤ l) → Kept read b l c m result
      → Kept read a k c m result
  kept-on result a b c k l m same narrows origin more next = record {
    keeps = keeps-later read (OrTextRefusal read) result a b c same narrows (text-narrows a b same narrows) next.keeps;
    unspent = next.unspent;
    origin = λ told. next.origin (same.tells ∙ told) ∙ origin told;
    more = λ told. omega (arith, more told, next.more (same.tells ∙ told));
  }

  pub kept-later : {A B : Type 0} {x : A} (result : Result B Error) (a b c : R) (k l m : ℕ) → Kept read a k b l (Ok x) → Kept read b l c m result →
      Kept read a k c m result
  kept-later result a b c k l m first second = kept-on result a b c k l m first.keeps.same first.keeps.narrows first.origin first.more second

  pub kept-asked : {A B : Type 0} {x : A} {y : B} (a b c : R) (k m : ℕ) → SameReader read a b → AddsNoReason (TriedAgain read.refuses) a b →
      AsksReader read (TriedAgain read.refuses) b c (Ok x) → (IsTrue (read.tells a) → read.place c - m ≡ read.place a - k)
      → (IsTrue (read.tells a) → k ≤ m) →
      Kept read a k c m (Ok y)
  kept-asked a b c k m same narrows asks origin more = record {
    keeps = keeps-done read (OrTextRefusal read) a c (same-later read a b c same asks.same) (λ e h. narrows e (asks.narrows e h));
    unspent = asks.unspent;
    origin = origin;
    more = more;
  }

  -- no step
  pub kept-still : {A : Type 0} (x : A) (a : R) (k : ℕ) → read.faults a < most_faults → Kept read a k a k (Ok x)
  kept-still x a k few = record {
    keeps = keeps-done read (OrTextRefusal read) a a (same-self read a) (λ e h. h);
    unspent = few;
    origin = λ told. refl;
    more = λ told. omega arith;
  }

  -- the same answer by another name
  pub kept-as : {A B : Type 0} {x : A} {y : B} (a b : R) (k l : ℕ) → Kept read a k b l (Ok x) → Kept read a k b l (Ok y)
  kept-as a b k l kept = record {
    keeps = record { same = kept.keeps.same; device = tt; patient = tt; why = tt; narrows = kept.keeps.narrows };
    unspent = kept.unspent;
    origin = kept.origin;
    more = kept.more;
  }

  pub kept-error : {A B : Type 0} (a b : R) (k l : ℕ) (e : Error) → Kept {A = A} read a k b l (Err e) → Kept {A = B} read a k b l (Err e)
  kept-error a b k l e kept = record {
    keeps = record { same = kept.keeps.same; device = kept.keeps.device; patient = kept.keeps.patient; why = kept.keeps.why; narrows = tt };
    unspent = tt;
    origin = kept.origin;
    more = kept.more;
  }

  -- a step, and then a refusal of the text
  pub kept-refused : {A B : Type 0} {x : A} (a b : R) (k l : ℕ) (e : Error) → Kept read a k b l (Ok x) → (IsDevice e → ⊥) →
      IsTextRefusal (read.tells a) (read.steady a) (read.content a).ends_well e → Kept {A = B} read a k b l (Err e)
  kept-refused a b k l e first other own = record {
    keeps = keeps-refused read (OrTextRefusal read) a b e first.keeps.same other (inl own);
    unspent = tt;
    origin = first.origin;
    more = first.more;
  }

  -- the text ends well, where its reader's rest does
  pub text-well : (r : R) → (IsTrue (read.tells r) → IsTrue (read.steady r) → StandsIn (read.content r) (read.place r) (read.rest r)) →
      (IsTrue (read.tells r) → IsTrue (read.rest r).ends_well) → IsTrue (read.tells r) → IsTrue (read.steady r) → IsTrue (read.content r).ends_well
  text-well r stands well told steady = elim (stands told steady).reaches [
    | inl is ↦ subst (λ s. IsTrue s.ends_well) is (well told)
    | inr gone ↦ absurd (true≢false (sym (well told) ∙ ap (λ s. s.ends_well) gone))
  ]

-- what was tried again adds no reason, and so does what wasn't
pub plain-narrows : {S : Type 0} (refuses : S → Error → Type 0) (a b : S) → ((s : S) (e : Error) → refuses s e → IsInterruption e → ⊥) →
    AddsNoReason (TriedAgain refuses) a b → AddsNoReason refuses a b
plain-narrows refuses a b patient narrows e h = elim (narrows e (inl (patient b e h, h))) [
  | inl plain ↦ plain.1
  | inr worn ↦ absurd (patient a (Device Interrupted) worn.1 tt)
]
