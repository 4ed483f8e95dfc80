-- Equal recipients hash alike.
use Rattle.std.specs.Prelude.{◌≡◌, ℕ, Bool, true, false, List, [], ◌∷◌, IsTrue, refl}
use Rattle.std.proofs.Common.{ap}
use Rattle.std.specs.Str.{bytes_eq}
use Rattle.std.proofs.lemmas.Slice.Eq.{bytes_eq-Decides}

is_true : (b : Bool) → IsTrue b → b ≡ true
is_true true h = refl
is_true false h = absurd (Prim.cc)

pub same_input : (x y : List ℕ) → IsTrue (bytes_eq x y) → x ∷ [] ≡ y ∷ []
same_input x y h = ap (λ bytes. bytes ∷ []) ((bytes_eq-Decides x y).0 (is_true (bytes_eq x y) h))
