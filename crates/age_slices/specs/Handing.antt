-- What a call that answers bytes leaves in the caller's memory: a room of so many bytes, a count and a status.
use Rattle.std.specs.Prelude.{◌≡◌, ◌≢◌, ◌⊎◌, ℕ, ◌<◌, ◌≤◌, List, ◌++◌, length, drop, Result, Ok, Err}
use Rattle.age.specs.Types.{Error}
use Rattle.age_slices.specs.Status.{of_io}

-- The count is that of the bytes. Where the room has place for them they stand at its front, the rest of it stays, and the status is 0. Where it
-- has less the room stays as it was, and the status is 1.
abbrev pub HandsOut : List ℕ → List ℕ → List ℕ → ℕ → ℕ → Type 0
HandsOut bytes old new written status = (written ≡ length bytes)
    × (((length bytes ≤ length old) × (new ≡ bytes ++ drop (length bytes) old) × (status ≡ 0))
    ⊎ ((length old < length bytes) × (new ≡ old) × (status ≡ 1)))

-- The same of an answer. After a refusal the room stays as it was, the count is 0, and the status is the refusal's number, which is above 1.
abbrev pub HandsOutAnswer : {E : Type 0} → (E → ℕ) → Result (List ℕ) E → List ℕ → List ℕ → ℕ → ℕ → Type 0
HandsOutAnswer number (Ok bytes) old new written status = HandsOut bytes old new written status
HandsOutAnswer number (Err e) old new written status = (status ≡ number e) × (1 < status) × (new ≡ old) × (written ≡ 0)

-- Under a key, which has 32 bytes, an answer of the library is handed out. A key of another length is refused by the status 3, and the room stays.
abbrev pub HandsOutUnder : List ℕ → (Result (List ℕ) Error → Type 0) → List ℕ → List ℕ → ℕ → ℕ → Type 0
HandsOutUnder key Answers old new written status = ((length key ≢ 32) × (status ≡ 3) × (new ≡ old) × (written ≡ 0))
    ⊎ ((length key ≡ 32) × ((answer : Result (List ℕ) Error) × Answers answer × HandsOutAnswer of_io answer old new written status))
