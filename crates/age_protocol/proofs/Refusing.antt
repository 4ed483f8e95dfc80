-- Why a file isn't written.
use Rattle.std.specs.Prelude.{◌≡◌, ◌⊎◌, ℕ, ◌^◌, ◌<◌, List, length}
use Rattle.std.proofs.Common.{subst, inl, inr}
use Rattle.age_error.specs.declared.io.Error.{Error}
use Rattle.age_error.specs.declared.io.Error.TheVariants.{TooLong, OutOfMemory}
use Rattle.age_io.specs.Stretch.{Stretch, whole}
use Rattle.age_protocol.specs.WholeFiles.{RefusesFile}

-- a writer that refuses for want of memory alone
pub memory-refused : {W : Type 0} (writer : W) (input : Stretch) (plain : List ℕ) (e : Error) → input ≡ whole plain →
    RefusesFile (λ (w : W) n d. d ≡ OutOfMemory) writer (length input.bytes) e → (e ≡ OutOfMemory) ⊎ ((e ≡ TooLong) × (2 ^ 60 < length plain))
memory-refused writer input plain e is (inl long) = inr (long.0, subst (λ s. 2 ^ 60 < length s.bytes) is long.1)
memory-refused writer input plain e is (inr (inl memory)) = inl memory
memory-refused writer input plain e is (inr (inr (n, inl h))) = inl h.1
memory-refused writer input plain e is (inr (inr (n, inr worn))) = absurd (Prim.cc)
