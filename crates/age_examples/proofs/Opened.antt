-- What was read of a text, said of the same text in other words.
use Rattle.std.specs.Prelude.{◌≡◌, ℕ, List}
use Rattle.std.proofs.Common.{subst}
use Rattle.age.specs.Stretch.{Stretch}
use Rattle.age.specs.Decrypting.{ReadsFront}
use Rattle.age.specs.HeaderV1.{HeaderValue}

-- what was read of the same bytes, from the same place
pub same_front : (a b rest : Stretch) (n m place : ℕ) (h : HeaderValue) (nonce : List ℕ) → a ≡ b → n ≡ m
    → ReadsFront a rest n place h nonce → ReadsFront b rest m place h nonce
same_front a b rest n m place h nonce p q front =
    subst (λ (s : Stretch). ReadsFront s rest m place h nonce) p (subst (λ (k : ℕ). ReadsFront a rest k place h nonce) q front)
