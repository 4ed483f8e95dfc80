-- What a step of a reader of a payload keeps of the reader that the payload comes from.
use Rattle.std.specs.Prelude.{List, ℕ, ⊤, ◌≡◌, ◌≢◌, ◌⊎◌}
use Rattle.age_error.specs.declared.io.Error.{Error}
use Rattle.age_error.specs.declared.io.Error.TheVariants.{AfterLast, BadChunk, BadEnd, LastChunkEmpty, OutOfMemory, TooLong, Truncated}
use Rattle.age_io.specs.Reading.{TriedAgain}
use Rattle.age_io.specs.declared.traits.Read.{Ghosts}
use Rattle.age_io.specs.Stretch.{Stretch}
use Rattle.age_v1.specs.Payload.{Seal}
use Rattle.age_v1.specs.PayloadRefusals.{StopsAt}

-- What a reader of a payload may say of its own: what is wrong with a payload, or want of memory.
abbrev pub IsPayloadRefusal : Error → Type 0
IsPayloadRefusal Truncated = ⊤
IsPayloadRefusal BadChunk = ⊤
IsPayloadRefusal AfterLast = ⊤
IsPayloadRefusal LastChunkEmpty = ⊤
IsPayloadRefusal BadEnd = ⊤
IsPayloadRefusal TooLong = ⊤
IsPayloadRefusal OutOfMemory = ⊤
IsPayloadRefusal _ = ⊥

-- What its reads may: that the end is bad only a seek says.
abbrev pub IsReadRefusal : Error → Type 0
IsReadRefusal e = IsPayloadRefusal e × (e ≢ BadEnd)

-- What it says of this payload: where that is known, what the definition names for one of its chunks, or that its end is bad.
pub record Stops (seal_of : Seal) (key : List ℕ) (payload : Stretch) (known : Type 0) (e : Error) : Type 0 where
  pub is : IsPayloadRefusal e
  pub named : known → (e ≡ BadEnd) ⊎ ((number : ℕ) × StopsAt seal_of key payload.bytes number e)

-- with an error of a kind of its own, or as the reader below does, whose interruptions are tried again
abbrev pub OwnOrInner : {R : Type 0} → Ghosts R → (Error → Type 0) → R → Error → Type 0
OwnOrInner read Own inner e = Own e ⊎ TriedAgain read.refuses inner e
