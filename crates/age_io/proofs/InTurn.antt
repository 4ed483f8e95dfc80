-- Reads and seeks in turn.
use Rattle.std.proofs.Common.{ℕ, Bool, List, [], ◌∷◌, ◌++◌, Result, refl, subst}
use Rattle.age_error.specs.declared.io.Error.{Error}
use Rattle.age_error.specs.declared.io.SeekFrom.{SeekFrom}
use Rattle.age_io.specs.Stretch.{Stretch}
use Rattle.age_io.specs.Replies.{CameOf, CameOfAll}
use Rattle.age_io.specs.declared.operations.Op.{Op}
use Rattle.age_io.specs.declared.operations.Answer.{Answer}

module _ {S : Type 0} (tells steady : S → Bool) (content : S → Stretch) (place : S → ℕ) (rest : S → Stretch) (faults : S → ℕ)
    (refuses : S → Error → Type 0)
    (read_besides : S → S → List ℕ → List ℕ → Result ℕ Error → Type 0) (seek_refuses : Error → Type 0)
    (seek_besides : S → S → SeekFrom → Result ℕ Error → Type 0) where
  -- a further operation
  pub came-more : (ops : List Op) (answers : List Answer) (op : Op) (answer : Answer) (old between new : S) →
      CameOfAll tells steady content place rest faults refuses read_besides seek_refuses seek_besides ops answers old between
      → CameOf tells steady content place rest faults refuses read_besides seek_refuses seek_besides op answer between new →
      CameOfAll tells steady content place rest faults refuses read_besides seek_refuses seek_besides (ops ++ op ∷ [])
      (answers ++ answer ∷ []) old new
  came-more [] [] op answer old between new same came =
      (new, subst (λ s. CameOf tells steady content place rest faults refuses read_besides seek_refuses seek_besides op answer s new) same came, refl)
  came-more [] (first_answer ∷ answers) op answer old between new came_all came = absurd came_all
  came-more (first ∷ ops) [] op answer old between new came_all came = absurd came_all
  came-more (first ∷ ops) (first_answer ∷ answers) op answer old between new came_all came =
      (came_all.0, came_all.1, came-more ops answers op answer came_all.0 between new came_all.2 came)
