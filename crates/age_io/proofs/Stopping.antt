-- What is known where reads stop, by an error or since nothing came.
use Rattle.std.specs.Prelude.{ℕ, ◌≡◌, ◌+◌, ◌≤◌, ◌<◌, false, IsTrue, List, ◌++◌, length, take, Result, Ok, Err, IsErrAnd, ◌⊎◌}
use Rattle.std.proofs.Common.{arith, refl, sym, ap, subst, ◌∙◌, append-nil, length-append, inl, inr}
use Rattle.age_error.specs.Refusals.{IsDevice, IsInterruption}
use Rattle.age_error.specs.declared.io.Error.{Error}
use Rattle.age_error.specs.declared.io.Error.TheVariants.{UnexpectedEof, OutOfMemory, BeforeStart, PastEnd, Failed}
use Rattle.age_error.specs.declared.io.SeekFrom.{SeekFrom}
use Rattle.age_io.specs.Cursor.{Seeks, IsOutside, OrFailed}
use Rattle.age_io.specs.declared.traits.Read.{Ghosts}
use Rattle.age_io.specs.Keeping.{SameReader, KeepsReader, OrSeek}
use Rattle.age_io.specs.Reading.{Reads, AddsNoReason, TriedAgain, Delivers, StaysOrFails, Gave, GrewByRead, TookSome, EndsEarly, IsShort}
use Rattle.age_io.specs.Stretch.{Stretch, from_place, IsCleanEnd, IsFault}
use Rattle.age_io.proofs.Delivering.{Grown}
use Rattle.age_io.proofs.Keeping.{same-later, same-read, same-sought}

-- a read after other steps refused, and its error is passed on
pub keeps-by-read : {R T : Type 0} (read : Ghosts R) {buf : List ℕ} (may : R → Error → Type 0) (result : Result T Error) (a b c : R) (e : Error) →
    IsErrAnd result (λ x. x ≡ e) → SameReader read a b → AddsNoReason (TriedAgain read.refuses) a b →
    ((x : Error) → TriedAgain read.refuses a x → may a x) → (IsInterruption e → ⊥) →
    Reads read.tells read.steady read.content read.place read.rest read.faults (TriedAgain read.refuses) b c buf (Err e) →
    KeepsReader read may a c result
keeps-by-read read may (Ok x) a b c e is same fewer wider patient reads = absurd is
keeps-by-read read may (Err x) a b c e is same fewer wider patient reads = record {
  same = same-later read a b c same (same-read read b c reads);
  device = λ at. omega (arith, same.faults, reads.device (subst IsDevice is at));
  patient = λ at. patient (subst IsInterruption is at);
  why = wider x (fewer x (subst (λ y. TriedAgain read.refuses b y) (sym is) reads.why));
  narrows = tt;
}

module _ (front : List ℕ) (old between : Stretch) (came : Delivers front old between) where
  -- the front of the buffer is another list after the read, though it has the same bytes
  pub gave-front : (kept : List ℕ) (new : Stretch) → kept ≡ front → StaysOrFails between new → Gave kept old new
  gave-front kept new same left = record { middle = between; delivered = subst (λ l. Delivers l old between) (sym same) came; left = left }

  pub took-front : (most before after : ℕ) (new : Stretch) → length front ≤ most → after ≡ before + length front → StaysOrFails between new →
      TookSome most before after old new
  took-front most before after new fits moved left =
      record { front = front; fits = fits; moved = moved; middle = between; delivered = came; left = left }

  pub fault-early : (want : ℕ) → length front < want → IsFault between → EndsEarly want old
  fault-early want fewer fault = record {
    short = omega (arith, fewer, ap length came.bytes, length-append front between.bytes, ap length fault.bytes);
    badly = sym came.end ∙ fault.ends_badly;
  }

  pub fault-short : (want : ℕ) (e : Error) → length front < want → IsFault between → IsShort want old e
  fault-short want e fewer fault =
      let early = fault-early want fewer fault in
      record { short = early.short; early = λ well. absurd (let badly = early.badly in Prim.cc) }

  pub clean-short : (want : ℕ) → length front < want → IsCleanEnd between → IsShort want old UnexpectedEof
  clean-short want fewer clean = record {
    short = omega (arith, fewer, ap length came.bytes, length-append front between.bytes, ap length clean.bytes);
    early = λ well. refl;
  }

  -- a read that gave nothing
  module _ (new : Stretch) (buf : List ℕ) (n : ℕ) (none : n ≡ 0) (more : Delivers (take n buf) between new) where
    same-bytes : between.bytes ≡ new.bytes
    same-bytes = more.bytes ∙ ap (λ k. take k buf ++ new.bytes) none

    pub delivers-none : (kept : List ℕ) → kept ≡ front → Delivers kept old new
    delivers-none kept same = record {
      bytes = came.bytes ∙ ap (λ l. l ++ between.bytes) (sym same) ∙ ap (λ l. kept ++ l) same-bytes;
      end = more.end ∙ came.end;
    }

    pub still-clean : IsCleanEnd between → IsCleanEnd new
    still-clean clean = record { bytes = sym same-bytes ∙ clean.bytes; ends_well = more.end ∙ clean.ends_well }

-- memory was refused after other steps
pub keeps-memory : {R T : Type 0} (read : Ghosts R) (may : R → Error → Type 0) (result : Result T Error) (a b : R) (e : Error) →
    IsErrAnd result (λ x. x ≡ e) → e ≡ OutOfMemory → SameReader read a b → may a OutOfMemory → KeepsReader read may a b result
keeps-memory read may (Ok x) a b e is memory same why = absurd is
keeps-memory read may (Err x) a b e is memory same why = record {
  same = same;
  device = λ at. absurd (subst IsDevice (is ∙ memory) at);
  patient = λ at. subst IsInterruption (is ∙ memory) at;
  why = subst (may a) (sym (is ∙ memory)) why;
  narrows = tt;
}

-- a list has grown by what was delivered, and its memory may have changed
module _ (before middle after : List ℕ) (old between : Stretch) (so_far : Grown before middle old between) (same : after ≡ middle) where
  pub appended-front : (new : Stretch) → StaysOrFails between new → GrewByRead old new before after
  appended-front new left =
      record { front = so_far.front; grown = same ∙ so_far.grown; middle = between; delivered = so_far.delivered; left = left }

  -- all of it, where nothing is left
  pub grown-all : IsCleanEnd between → after ≡ before ++ old.bytes
  grown-all clean =
      same ∙ so_far.grown ∙ ap (λ l. before ++ l) (sym (so_far.delivered.bytes ∙ ap (λ l. so_far.front ++ l) clean.bytes ∙ append-nil so_far.front))

-- in a content that ends well no fault comes
pub well-no-fault : {got : List ℕ} (content old between : Stretch) (place : ℕ) → IsTrue content.ends_well → old ≡ from_place place content →
    Delivers got old between → IsFault between → ⊥
well-no-fault content old between place well at came fault =
    let badly : content.ends_well ≡ false = sym (ap (λ s. s.ends_well) at) ∙ sym came.end ∙ fault.ends_badly in
    Prim.cc

outside-or : (e : Error) → IsOutside e ⊎ (IsOutside e → ⊥)
outside-or BeforeStart = inl tt
outside-or PastEnd = inl tt
outside-or _ = inr (λ is. is)

-- a seek refused, and is told with another error where its target was outside the content
pub keeps-unrefused : {R T : Type 0} (read : Ghosts R) (seek_refuses : Error → Type 0) {to : SeekFrom} (a c : R) (e r : Error)
    → (IsOutside e → r ≡ Failed) →
    ((IsOutside e → ⊥) → r ≡ e) → (IsInterruption e → ⊥) →
    Seeks read.tells read.steady read.content read.place read.rest read.faults (TriedAgain read.refuses) seek_refuses a c to (Err e) →
    KeepsReader {T = T} read (OrSeek (OrFailed seek_refuses) (TriedAgain read.refuses)) a c (Err r)
keeps-unrefused read seek_refuses a c e r failed same patient seeks = elim (outside-or e) [
  | inl out ↦ record {
    same = same-sought read a c seeks;
    device = λ is. absurd (subst IsDevice (failed out) is);
    patient = λ is. subst IsInterruption (failed out) is;
    why = inl (inr (inl (failed out)));
    narrows = tt;
  }
  | inr other ↦ record {
    same = same-sought read a c seeks;
    device = λ is. seeks.device (subst IsDevice (same other) is);
    patient = λ is. patient (subst IsInterruption (same other) is);
    why = elim seeks.why [
      | inl seek ↦ elim seek [ inl out ↦ absurd (other out) | inr own ↦ inl (inr (inr (subst seek_refuses (sym (same other)) own))) ]
      | inr more ↦ inr (subst (TriedAgain read.refuses a) (sym (same other)) more)
    ];
    narrows = tt;
  }
]
