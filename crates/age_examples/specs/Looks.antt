-- Looks at places.
use Rattle.std.specs.Prelude.{◌≡◌, ℕ, zero, suc, ◌≤◌, ◌⊎◌, List, [], ◌∷◌, map, Some, None, slice_get, ⊤}

-- each of these places isn't beyond this one
abbrev pub AreWithin : ℕ → List ℕ → Type 0
AreWithin furthest [] = ⊤
AreWithin furthest (place ∷ places) = (place ≤ furthest) × AreWithin furthest places

-- A look answers how many bytes came, which is none where there is no byte at the place, and else has that in its room.
abbrev pub IsLook : List ℕ → ℕ → ℕ → List ℕ → Type 0
IsLook bytes place zero room = slice_get bytes place ≡ None
IsLook bytes place (suc n) room = map Some room ≡ slice_get bytes place ∷ []

-- there is no byte at one of these places
abbrev pub IsOneOutside : List ℕ → List ℕ → Type 0
IsOneOutside bytes [] = ⊥
IsOneOutside bytes (place ∷ places) = (slice_get bytes place ≡ None) ⊎ IsOneOutside bytes places
