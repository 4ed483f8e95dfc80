-- What reads and seeks in turn answer: a cursor over a list, and any reader.
use Rattle.std.specs.Prelude.{◌≡◌, ◌≢◌, ℕ, ◌+◌, Bool, List, [], ◌∷◌, length, take, drop, Result, Ok, Err}
use Rattle.age_io.specs.Stretch.{Stretch, from_place}
use Rattle.age_io.specs.Turns.{GivesUpTo, GivesThenRefuses}
use Rattle.age_io.specs.Cursor.{sought, Seeks}
use Rattle.age_error.specs.Refusals.{IsDevice}
use Rattle.age_error.specs.declared.io.Error.{Error}
use Rattle.age_error.specs.declared.io.Error.TheVariants.{OutOfMemory}
use Rattle.age_error.specs.declared.io.SeekFrom.{SeekFrom}
use Rattle.age_io.specs.declared.operations.Op.{Op}
use Rattle.age_io.specs.declared.operations.Op.TheVariants.{Read, Seek}
use Rattle.age_io.specs.declared.operations.Answer.{Answer}
use Rattle.age_io.specs.declared.operations.Answer.TheVariants.{Bytes, At, Fault}

-- an answer with its bytes as a list
pub data Reply : Type 0 where
  gave : List ℕ → Reply
  at : ℕ → Reply
  refused : List ℕ → Error → Reply

-- an answer as a reply
abbrev pub seen : Answer → Reply
seen (Bytes bytes) = gave bytes.items
seen (At place) = at place
seen (Fault got error) = refused got.items error

-- the reply to a seek
abbrev pub reply_to_seek : Result ℕ Error → Reply
reply_to_seek (Ok place) = at place
reply_to_seek (Err error) = refused [] error

-- where the cursor stands after a seek: a refused one leaves it
abbrev pub place_after_seek : Result ℕ Error → ℕ → ℕ
place_after_seek (Ok new) old = new
place_after_seek (Err error) old = old

-- what a cursor at a place in the content answers
abbrev pub reply : Op → List ℕ → ℕ → Reply
reply (Read n) content place = gave (take n (drop place content))
reply (Seek to) content place = reply_to_seek (sought to place (length content))

-- where it stands then
abbrev pub place_after : Op → List ℕ → ℕ → ℕ
place_after (Read n) content place = place + length (take n (drop place content))
place_after (Seek to) content place = place_after_seek (sought to place (length content)) place

-- This is a cursor's reply on a content that ends well, and the reader stands where the cursor stands then.
pub record Replied (op : Op) (content : Stretch) (old_place new_place : ℕ) (rest : Stretch) (answer : Answer) : Type 0 where
  pub told : seen answer ≡ reply op content.bytes old_place
  pub moved : new_place ≡ place_after op content.bytes old_place
  pub left : rest ≡ from_place new_place content

-- what it answers to each in turn
abbrev pub replies : List Op → List ℕ → ℕ → List Reply
replies [] content place = []
replies (op ∷ ops) content place = reply op content place ∷ replies ops content (place_after op content place)

-- where it stands after all of them
abbrev pub place_after_all : List Op → List ℕ → ℕ → ℕ
place_after_all [] content place = place
place_after_all (op ∷ ops) content place = place_after_all ops content (place_after op content place)

-- an answer that says that the device failed
abbrev pub IsDeviceFault : Answer → Type 0
IsDeviceFault (Fault got error) = IsDevice error
IsDeviceFault _ = ⊥

-- an answer that isn't want of memory
abbrev pub IsNoWant : Answer → Type 0
IsNoWant (Fault got error) = error ≢ OutOfMemory
IsNoWant _ = Unit {0}

module _ {S : Type 0} (tells steady : S → Bool) (content : S → Stretch) (place : S → ℕ) (rest : S → Stretch) (faults : S → ℕ)
    (refuses : S → Error → Type 0)
    (read_besides : S → S → List ℕ → List ℕ → Result ℕ Error → Type 0) where
  module _ (seek_refuses : Error → Type 0) (seek_besides : S → S → SeekFrom → Result ℕ Error → Type 0) where
    -- A seek answered this, and said of itself what it promises besides.
    pub record SeeksOnce (old new : S) (to : SeekFrom) (result : Result ℕ Error) : Type 0 where
      pub seeks : Seeks tells steady content place rest faults refuses seek_refuses old new to result
      pub own : seek_besides old new to result

    -- this answer came of reads or of a seek, which left the reader so
    abbrev pub CameOf : Op → Answer → S → S → Type 0
    CameOf (Read n) (Bytes got) old new = GivesUpTo tells steady content place rest faults refuses read_besides n got.items old new
    CameOf (Read n) (Fault got e) old new = GivesThenRefuses tells steady content place rest faults refuses read_besides n got.items e old new
    CameOf (Seek to) (At n) old new = SeeksOnce old new to (Ok n)
    CameOf (Seek to) (Fault got e) old new = (got.items ≡ []) × SeeksOnce old new to (Err e)
    CameOf _ _ old new = ⊥

    -- these answers came of reads and seeks in turn, each from the state in which the one before it left the reader
    abbrev pub CameOfAll : List Op → List Answer → S → S → Type 0
    CameOfAll [] [] old new = new ≡ old
    CameOfAll (op ∷ ops) (a ∷ answers) old new = (between : S) × CameOf op a old between × CameOfAll ops answers between new
    CameOfAll _ _ old new = ⊥
