-- What a caller sees of a `BufReader`, and what it means as a reader.
use Rattle.std.specs.Prelude.{◌≡◌, ℕ, ◌-◌, ◌⊎◌, Bool, true, List}
use Rattle.age_io.specs.declared.traits.Read.{Ghosts}
use Rattle.age_io.specs.declared.buffered.BufReader.{BufReader}
use Rattle.age_error.specs.declared.io.Error.{Error}
use Rattle.age_error.specs.declared.io.Error.TheVariants.{Failed}
use Rattle.age_io.specs.Reading.{TriedAgain}
use Rattle.age_io.specs.Stretch.{Stretch}
use Rattle.age_io.specs.Buffering.{held, rest_behind, shown_behind}

module _ {R : Type 0} {read : Ghosts R} where
  -- the reader that it reads from
  abbrev pub inner_of : BufReader R read → R
  inner_of r = r.inner

  -- whether it answers `Failed` to every read
  abbrev pub has_failed : BufReader R read → Bool
  has_failed r = r.failed

  -- how many bytes of the inner reader's content stand before the next read: those that are held aren't given yet
  abbrev pub place_of : BufReader R read → ℕ
  place_of r = read.place r.inner - (r.filled - r.given)

  -- what its reads can still deliver
  abbrev pub rest_of : BufReader R read → Stretch
  rest_of r = rest_behind r.failed (held r.buffer.items r.given r.filled) (read.rest r.inner)

  -- with `Failed` once it has failed, else as the inner reader does, whose interruptions are tried again
  abbrev pub refuses_of : BufReader R read → Error → Type 0
  refuses_of r e = ((r.failed ≡ true) × (e ≡ Failed)) ⊎ TriedAgain read.refuses r.inner e

  -- what it holds, and nothing once it has failed
  abbrev pub shown_of : BufReader R read → List ℕ
  shown_of r = shown_behind r.failed (held r.buffer.items r.given r.filled)
