-- Lists of which nothing is left.
use Rattle.std.proofs.Common.{◌≡◌, ◌∷◌, [], List, arith, length, refl}

pub nothing_left : {X : Type 0} (l : List X) → length l ≡ 0 → l ≡ []
nothing_left [] h = refl
nothing_left (x ∷ xs) h = absurd (omega arith)
