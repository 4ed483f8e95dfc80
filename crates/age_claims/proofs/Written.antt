-- What was encrypted, and what a cursor answers.
use Rattle.std.specs.Prelude.{◌≡◌, ℕ, ◌≤◌, List, [], ◌∷◌, length, take, drop, Result, Ok, Err, MatchResult, IfOk, nat_le, true, if◌then◌else◌}
use Rattle.std.proofs.Common.{refl}
use Rattle.std.proofs.lemmas.Bool.{le-leb}
use Rattle.age.specs.EncryptErrors.{EncryptRefusal}
use Rattle.age.specs.Encrypting.{Prepared}
use Rattle.age.specs.Payload.{Seal}
use Rattle.age.specs.WholeFiles.{Encrypts, IsWritten}
use Rattle.age.specs.Types.{Error}
use Rattle.age.specs.ErrorVariants.{PastEnd}
use Rattle.age.specs.OpVariants.{Read, Seek}
use Rattle.age.specs.SeekFromVariants.{Start}
use Rattle.age.specs.Replies.{gave, at, replies, reply_to_seek, place_after_seek}

replied : (sought : Result ℕ Error) (place count : ℕ) (plain : List ℕ) → sought ≡ Ok place
    → reply_to_seek sought ∷ gave (take count (drop (place_after_seek sought 0) plain)) ∷ [] ≡ at place ∷ gave (take count (drop place plain)) ∷ []
replied sought place count plain is = rw is refl

chosen : (within : _) (place : ℕ) → within ≡ true → ◌≡◌ {A = Result ℕ Error} (if within then Ok place else Err PastEnd) (Ok place)
chosen within place is = rw is refl

-- a cursor answers a place inside and the bytes from there on
pub slice_replies : (place count : ℕ) (plain : List ℕ) → place ≤ length plain
    → replies (Seek (Start place) ∷ Read count ∷ []) plain 0 ≡ at place ∷ gave (take count (drop place plain)) ∷ []
slice_replies place count plain inside = replied _ place count plain (chosen (nat_le place (length plain)) place (le-leb place (length plain) inside))

-- where a premise makes a success one thing, another success takes the premise away
pub no_other : {T E C : Type 0} (P : T → Type 0) (Q : E → Type 0) (result : Result T E) → (C → MatchResult result P Q)
    → IfOk result (λ x. (P x → ⊥) → C → ⊥)
no_other P Q (Ok x) h = λ other given. other (h given)
no_other P Q (Err e) h = tt

-- what was written of what was prepared
pub written_with : (P : Result Prepared EncryptRefusal → Type 0) (seal_of : Seal) (form : List ℕ → List ℕ) (plain text : List ℕ)
    (outcome : Result Prepared EncryptRefusal)
    → P outcome → Encrypts seal_of form plain outcome (Ok text) → (file : Prepared) × P (Ok file) × IsWritten seal_of form plain file text
written_with P seal_of form plain text (Ok file) p encrypts = (file, p, encrypts)
written_with P seal_of form plain text (Err e) p encrypts = absurd (Prim.cc)
