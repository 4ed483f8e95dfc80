-- Reads in turn.
use Rattle.std.proofs.Common.{◌≡◌, ◌∙◌, ℕ, suc, ◌<◌, Bool, IsTrue, List, ◌++◌, length, take, Result, Ok, refl, sym, subst}
use Rattle.age_error.specs.declared.io.Error.{Error}
use Rattle.age_io.specs.Stretch.{Stretch, IsCleanEnd}
use Rattle.age_io.specs.Reading.{Reads, ReadsInTurn}

module _ {S : Type 0} (tells steady : S → Bool) (content : S → Stretch) (place : S → ℕ) (rest : S → Stretch) (faults : S → ℕ)
    (refuses : S → Error → Type 0)
    (besides : S → S → List ℕ → List ℕ → Result ℕ Error → Type 0) where
  -- a further one
  pub turns-more : (old between new : S) (got after room buf : List ℕ) (n : ℕ) →
      ((m : ℕ) × ReadsInTurn tells steady content place rest faults refuses besides m old between got) →
      Reads tells steady content place rest faults refuses between new buf (Ok n) → besides between new room buf (Ok n) → after ≡ got ++ take n buf →
      (m : ℕ) × ReadsInTurn tells steady content place rest faults refuses besides m old new after
  turns-more old between new got after room buf n turns reads own grown =
      (suc turns.0, (between, got, turns.1, record { room = room; buf = buf; count = n; reads = reads; own = own; grown = grown }))

module _ {S : Type 0} (tells steady : S → Bool) (content : S → Stretch) (place : S → ℕ) (rest : S → Stretch) (faults : S → ℕ)
    (refuses : S → Error → Type 0) where
  -- after a read that answered 0 into a room nothing is left but a clean end
  pub clean-after : (old new : S) (buf : List ℕ) → Reads tells steady content place rest faults refuses old new buf (Ok 0) →
      IsTrue (tells old) → 0 < length buf → IsCleanEnd (rest new)
  clean-after old new buf reads told room =
      let end = reads.end told refl room in
      let given = reads.bytes told in
      record { bytes = sym given.bytes ∙ end.bytes; ends_well = subst IsTrue (sym given.end) end.ends_well }
