-- What reads in turn come to that are asked for so many bytes in all.
use Rattle.std.specs.Prelude.{ℕ, ◌≤◌, ◌<◌, Bool, IsTrue, List, length, Result, Ok, Err, ⊤}
use Rattle.age_io.specs.Stretch.{Stretch, IsCleanEnd}
use Rattle.age_io.specs.Reading.{Reads, ReadsInTurn, GivesInAll, TriedAgain}
use Rattle.age_error.specs.declared.io.Error.{Error}
use Rattle.age_io.specs.declared.traits.Read.{Ghosts}

module _ {S : Type 0} (tells steady : S → Bool) (content : S → Stretch) (place : S → ℕ) (rest : S → Stretch) (faults : S → ℕ)
    (refuses : S → Error → Type 0)
    (read_besides : S → S → List ℕ → List ℕ → Result ℕ Error → Type 0) where
  -- A read into a room that isn't empty answered 0, and said of itself what it promises besides.
  pub record FindsEnd (old new : S) : Type 0 where
    pub room : List ℕ
    pub buf : List ℕ
    pub some : 0 < length buf
    pub reads : Reads tells steady content place rest faults refuses old new buf (Ok 0)
    pub own : read_besides old new room buf (Ok 0)

  -- Reads in turn, of which none was refused, were asked for so many bytes in all, and gave fewer at a clean end alone: the last of them found it,
  -- and those before gave the bytes.
  pub record GivesUpTo (wanted : ℕ) (got : List ℕ) (old new : S) : Type 0 where
    pub most : length got ≤ wanted
    pub gives : GivesInAll tells steady content place rest faults refuses old new got
    pub turns : (n : ℕ) × ReadsInTurn tells steady content place rest faults refuses read_besides n old new got
    pub end : IsTrue (tells old) → length got < wanted → IsCleanEnd (rest new)
    pub finds : length got < wanted → (between : S) × (n : ℕ)
        × ReadsInTurn tells steady content place rest faults refuses read_besides n old between got
        × FindsEnd between new

  -- They were asked for so many bytes, and gave fewer, since the next read refused with this error. Nothing was tried again.
  pub record GivesThenRefuses (wanted : ℕ) (got : List ℕ) (e : Error) (old new : S) : Type 0 where
    pub fewer : length got < wanted
    pub between : S
    pub gives : GivesInAll tells steady content place rest faults refuses old between got
    pub turns : (n : ℕ) × ReadsInTurn tells steady content place rest faults refuses read_besides n old between got
    pub room : List ℕ
    pub buf : List ℕ
    pub refused : Reads tells steady content place rest faults refuses between new buf (Err e)
    pub own : read_besides between new room buf (Err e)

-- so did reads in turn of which each is tried again after an interruption
abbrev pub GivesTried : {R : Type 0} → Ghosts R → ℕ → List ℕ → R → R → Type 0
GivesTried read wanted got old new =
    GivesUpTo read.tells read.steady read.content read.place read.rest read.faults (TriedAgain read.refuses) (λ _ _ _ _ _. ⊤) wanted got old new

-- and so they were refused
abbrev pub RefusesTried : {R : Type 0} → Ghosts R → ℕ → List ℕ → Error → R → R → Type 0
RefusesTried read wanted got e old new =
    GivesThenRefuses read.tells read.steady read.content read.place read.rest read.faults (TriedAgain read.refuses)
    (λ _ _ _ _ _. ⊤) wanted got e old new
