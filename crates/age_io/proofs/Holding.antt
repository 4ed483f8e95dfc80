-- Facts on what a buffer holds.
use Rattle.std.proofs.Common.{◌≡◌, ℕ, ◌+◌, ◌-◌, ◌≤◌, ◌<◌, Bool, true, false, List, [], ◌++◌, length, take, drop, refl, arith, sym, ap, ◌∙◌, length-take-le, length-drop, length-append, append_assoc, inl, inr}
use Rattle.std.proofs.Math.Seq.{drop-nil}
use Rattle.std.proofs.lemmas.List.{drop-drop, take-append-drop, drop-append-le, take_at, drop-take, take-take}
use Rattle.age_io.specs.Stretch.{Stretch, from_place, stretch-ext}
use Rattle.age_io.specs.Reading.{StandsIn, Delivers}
use Rattle.age_io.specs.Buffering.{held, rest_behind, shown_behind}

pub length-held : (buffer : List ℕ) (given filled : ℕ) → filled ≤ length buffer → length (held buffer given filled) ≡ filled - given
length-held buffer given filled within = length-drop given (take filled buffer) ∙ ap (λ n. n - given) (length-take-le filled buffer within)

-- what is held after r more were given
pub held-further : (buffer : List ℕ) (given filled r : ℕ) → drop r (held buffer given filled) ≡ held buffer (given + r) filled
held-further buffer given filled r = drop-drop r given (take filled buffer)

-- after r more were given the rest is still that of the content at the place
pub follows-further : (buffer : List ℕ) (rest content : Stretch) (given filled r place : ℕ) → filled ≤ length buffer → given + r ≤ filled →
    filled - given ≤ place → rest_behind false (held buffer given filled) rest ≡ from_place (place - (filled - given)) content →
    rest_behind false (held buffer (given + r) filled) rest ≡ from_place (place - (filled - (given + r))) content
follows-further buffer rest content given filled r place within fits behind before =
    let enough : r ≤ length (held buffer given filled) = rw length-held (omega arith) in
    let onward : place - (filled - given) + r ≡ place - (filled - (given + r)) = omega arith in
    stretch-ext _ _
    (ap (λ xs. xs ++ rest.bytes) (sym (held-further buffer given filled r)) ∙ sym (drop-append-le r (held buffer given filled) rest.bytes enough)
    ∙ ap (λ s. drop r s.bytes) before ∙ drop-drop r (place - (filled - given)) content.bytes ∙ ap (λ n. drop n content.bytes) onward)
    (ap (λ s. s.ends_well) before)

-- giving r bytes of what is held delivers them
pub gives-held : (buffer front : List ℕ) (given filled r : ℕ) (rest : Stretch) → front ≡ take r (held buffer given filled) →
    Delivers front (rest_behind false (held buffer given filled) rest) (rest_behind false (held buffer (given + r) filled) rest)
gives-held buffer front given filled r rest same = record {
  bytes = rw (same, ← held-further buffer given filled r, ← append_assoc, take-append-drop r (held buffer given filled)) refl;
  end = refl;
}

-- no more can be consumed than is held
pub shown-fits : (failed : Bool) (buffer : List ℕ) (given filled n : ℕ) → filled ≤ length buffer →
    n ≤ length (shown_behind failed (held buffer given filled)) → n ≤ filled - given
shown-fits true buffer given filled n within most = omega arith
shown-fits false buffer given filled n within most = rw length-held at most

-- consuming what was shown delivers it
pub gives-shown : (failed : Bool) (buffer : List ℕ) (given filled n : ℕ) (rest : Stretch) →
    n ≤ length (shown_behind failed (held buffer given filled)) →
    Delivers (take n (shown_behind failed (held buffer given filled)))
    (rest_behind failed (held buffer given filled) rest) (rest_behind failed (held buffer (given + n) filled) rest)
gives-shown true buffer given filled n rest most =
    let none : n ≡ 0 = omega arith in
    record { bytes = rw none refl; end = refl }
gives-shown false buffer given filled n rest most = gives-held buffer _ given filled n rest refl

-- what is shown after n more bytes were consumed
pub shows-further : (failed : Bool) (buffer : List ℕ) (given filled n : ℕ) →
    shown_behind failed (held buffer (given + n) filled) ≡ drop n (shown_behind failed (held buffer given filled))
shows-further true buffer given filled n = sym (drop-nil n)
shows-further false buffer given filled n = sym (held-further buffer given filled n)

-- what was copied from the buffer is the front of what is held
pub copied-held : (buffer copy after : List ℕ) (given filled r : ℕ) → filled ≤ length buffer → given + r ≤ filled →
    copy ≡ take ((given + r) - given) (drop given buffer) → take r (copy ++ after) ≡ take r (held buffer given filled)
copied-held buffer copy after given filled r within fits copied =
    let count : (given + r) - given ≡ r = omega arith in
    let split : given + (filled - given) ≡ filled = omega arith in
    let front : copy ≡ take r (drop given buffer) = copied ∙ ap (λ n. take n (drop given buffer)) count in
    let long : length copy ≡ r = ap length front ∙ length-take-le r (drop given buffer) (rw length-drop (omega arith)) in
    let held_is : held buffer given filled ≡ take (filled - given) (drop given buffer) =
    ap (λ n. drop given (take n buffer)) (sym split) ∙ drop-take given (filled - given) buffer in
    take_at copy after r long ∙ front ∙ sym (take-take r (filled - given) (drop given buffer) (omega arith)) ∙ ap (take r) (sym held_is)

-- a reader whose inner reader has just given bytes has them before what the inner reader has left
pub follows-filled : (content rest new : Stretch) (place : ℕ) (front : List ℕ) → StandsIn content place rest →
    Delivers front rest new → 0 < length front → rest_behind false front new ≡ from_place place content
follows-filled content rest new place front stands d some =
    elim stands.reaches [
      | inl e ↦ stretch-ext _ _ (sym d.bytes ∙ ap (λ s. s.bytes) e) (d.end ∙ ap (λ s. s.ends_well) e)
      | inr e ↦
          let gone : [] ≡ front ++ new.bytes = sym (ap (λ s. s.bytes) e) ∙ d.bytes in
          absurd (omega (arith, simp length-append at (ap length gone)))
    ]

-- where nothing is held, the rest is that of the inner reader
pub rest-empty : (buffer : List ℕ) (given filled : ℕ) (rest : Stretch) → given ≡ filled → rest_behind false (held buffer given filled) rest ≡ rest
rest-empty buffer given filled rest none =
    let split : filled ≡ given + 0 = omega (arith, none) in
    let nothing : held buffer given filled ≡ [] = ap (λ n. drop given (take n buffer)) split ∙ drop-take given 0 buffer in
    stretch-ext (rest_behind false (held buffer given filled) rest) rest (ap (λ xs. xs ++ rest.bytes) nothing) refl

-- the rest stays where a reader that holds nothing stays as failed as it was
pub kept-behind : (failed now : Bool) (front buffer : List ℕ) (given filled : ℕ) (rest new : Stretch) → given ≡ filled → now ≡ failed →
    (failed ≡ false → new ≡ rest_behind failed front rest) → rest_behind now (held buffer given filled) new ≡ rest_behind failed front rest
kept-behind true true front buffer given filled rest new none same good = refl
kept-behind false false front buffer given filled rest new none same good = rest-empty buffer given filled new none ∙ good refl
kept-behind true false front buffer given filled rest new none same good = absurd (Prim.cc)
kept-behind false true front buffer given filled rest new none same good = absurd (Prim.cc)
