-- A stretch of bytes that a reader delivers, and how it ends.
use Rattle.std.proofs.Common.{ap, ◌∙◌}
use Rattle.std.specs.Prelude.{◌≡◌, ℕ, Bool, true, false, IsTrue, List, [], drop}

-- bytes, and whether a clean end follows them. Otherwise a fault does.
pub record Stretch : Type 0 where
  pub bytes : List ℕ
  pub ends_well : Bool

-- these bytes, and then a clean end
abbrev pub whole : List ℕ → Stretch
whole bytes = record { bytes = bytes; ends_well = true }

-- what a failed reader can deliver
abbrev pub nothing : Stretch
nothing = record { bytes = []; ends_well = false }

-- what stands from this place on
abbrev pub from_place : ℕ → Stretch → Stretch
from_place place s = record { bytes = drop place s.bytes; ends_well = s.ends_well }

-- two stretches of the same bytes and the same end are one
pub stretch-ext : (a b : Stretch) → a.bytes ≡ b.bytes → a.ends_well ≡ b.ends_well → a ≡ b
stretch-ext a b p q =
    let stretch : List ℕ → Bool → Stretch = λ bytes ends_well. record { bytes = bytes; ends_well = ends_well } in
    ap (λ x. stretch x a.ends_well) p ∙ ap (λ y. stretch b.bytes y) q

-- nothing is left but a clean end
pub record IsCleanEnd (s : Stretch) : Type 0 where
  pub bytes : s.bytes ≡ []
  pub ends_well : IsTrue s.ends_well

-- nothing is left but a fault
pub record IsFault (s : Stretch) : Type 0 where
  pub bytes : s.bytes ≡ []
  pub ends_badly : s.ends_well ≡ false
