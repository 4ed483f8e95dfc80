-- Why a read of a payload is refused, by the names alone.
use Rattle.std.specs.Prelude.{◌≡◌, ℕ, Err}
use Rattle.std.proofs.Common.{inl, inr}
use Rattle.age_error.specs.declared.io.Error.{Error}
use Rattle.age_error.specs.declared.io.Error.TheVariants.{AfterLast, BadEnd, Truncated}
use Rattle.age_io.specs.declared.traits.Read.{Ghosts}
use Rattle.age_error.specs.declared.io.SeekFrom.{SeekFrom}
use Rattle.age_io.specs.Cursor.{Seeks}
use Rattle.age_io.specs.Reading.{TriedAgain}
use Rattle.age_stream.specs.Naming.{RefusedBelow, RefusedOnTheWay}
use Rattle.age_stream.specs.PrivateKeeping.{IsChunkRefusal, IsLost}
use Rattle.age_stream.specs.Keeping.{IsReadRefusal, OwnOrInner}

pub after_last-named : IsReadRefusal AfterLast
after_last-named = (tt, (λ same. let is : AfterLast ≡ BadEnd = same in absurd (Prim.cc)))

pub truncated-named : IsReadRefusal Truncated
truncated-named = (tt, (λ same. let is : Truncated ≡ BadEnd = same in absurd (Prim.cc)))

-- a seek of the inner reader's was refused, and told so
pub sought-named : {R : Type 0} (read : Ghosts R) (seek_refuses : Error → Type 0) {to : SeekFrom} (before new : R) (error e : Error)
    → IsLost error e →
    Seeks read.tells read.steady read.content read.place read.rest read.faults (TriedAgain read.refuses) seek_refuses before new to (Err error) →
    RefusedOnTheWay read seek_refuses new e
sought-named read seek_refuses {to} before new error e lost seeks =
    record { before = before; error = error; asked = inl (to, seeks); outside = lost.bad; same = lost.same }

-- and reads of it
pub read-named : {R : Type 0} (read : Ghosts R) (seek_refuses : Error → Type 0) (wanted : ℕ) (before new : R) (error e : Error) → IsLost error e →
    RefusedBelow read wanted before new error → RefusedOnTheWay read seek_refuses new e
read-named read seek_refuses wanted before new error e lost refused =
    record { before = before; error = error; asked = inr (wanted, refused); outside = lost.bad; same = lost.same }

-- a chunk's
pub chunk-named : (e : Error) → IsChunkRefusal e → IsReadRefusal e
chunk-named e h = (h.named, h.end)

-- the inner reader's own
pub inner-named : {R : Type 0} (read : Ghosts R) (inner : R) (e : Error) → OwnOrInner read (λ _. ⊥) inner e → OwnOrInner read IsReadRefusal inner e
inner-named read inner e h = elim h [ inl none ↦ absurd none | inr own ↦ inr own ]
