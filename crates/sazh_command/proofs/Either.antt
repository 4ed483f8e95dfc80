-- Either of two tests.
use Rattle.std.specs.Prelude.{◌≡◌, ◌⊎◌, ◌↔◌, ◌||◌, Bool, true, false, IsTrue, refl}
use Rattle.std.proofs.Common.{inl, inr, sym, true≢false}

pub either : (a b : Bool) (A B : Type 0) → (a ≡ true) ↔ A → (b ≡ true) ↔ B → IsTrue (a || b) ↔ (A ⊎ B)
either true b A B is_a is_b = (λ _. inl (is_a.0 refl), λ _. refl)
either false true A B is_a is_b = (λ _. inr (is_b.0 refl), λ _. refl)
either false false A B is_a is_b = (
  λ e. absurd (true≢false (sym e)),
  λ it. elim it [
    | inl at_a ↦ absurd (true≢false (sym (is_a.1 at_a)))
    | inr at_b ↦ absurd (true≢false (sym (is_b.1 at_b)))
  ],
)
