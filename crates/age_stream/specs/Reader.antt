-- What a caller sees of a `StreamReader`, and what it means as a reader.
use Rattle.std.specs.Prelude.{◌≡◌, ℕ, ◌+◌, ◌*◌, ◌<◌, ◌&&◌, ◌⊎◌, Bool, true, false, IsTrue, cond, Option, None, List, ◌++◌, length, codes}
use Rattle.std.specs.Fmt.{decimal}
use Rattle.age_suite.specs.declared.suite.Suite.{Ghosts as SuiteGhosts}
use Rattle.age_io.specs.declared.traits.Read.{Ghosts}
use Rattle.age_io.specs.Stretch.{Stretch}
use Rattle.age_error.specs.declared.io.Error.{Error}
use Rattle.age_error.specs.declared.io.Error.TheVariants.{Failed}
use Rattle.age_stream.specs.Keeping.{Stops, OwnOrInner}
use Rattle.age_stream.specs.declared.reader.StreamReader.{StreamReader}
use Rattle.age_v1.specs.Payload.{final_chunk}
use Rattle.age_v1.specs.DeliveredPayload.{payload_delivers}
use Rattle.age_stream.specs.Reading.{payload_from, rest_of, tells_from}
use Rattle.age_stream.specs.Cache.{has_number, last_used, HasLast, HasOne}

module _ {S R : Type 0} {suite : SuiteGhosts S} {read : Ghosts R} where
  -- its payload: what the inner reader's content had from its place on when this reader was made
  abbrev pub payload_of : StreamReader S R suite read → Stretch
  payload_of r = payload_from r.source

  abbrev pub key_of : StreamReader S R suite read → List ℕ
  key_of r = r.key

  -- the reader that the payload comes from
  abbrev pub inner_of : StreamReader S R suite read → R
  inner_of r = r.source.inner

  -- what the inner reader can still deliver
  abbrev pub inner_rest_of : StreamReader S R suite read → Stretch
  inner_rest_of r = read.rest r.source.inner

  -- how many bytes it asks the inner reader for when it has given what it holds: after the last chunk one, which must
  -- not come, else a full sealed chunk
  abbrev pub wanted_of : StreamReader S R suite read → ℕ
  wanted_of r = cond (r.place.held && r.cache.first.last) 1 65552

  -- it answers `Failed` to every read
  abbrev pub HasFailed : StreamReader S R suite read → Type 0
  HasFailed r = r.place.failed ≡ true

  -- a seek was made that didn't end at its first test
  abbrev pub HasSought : StreamReader S R suite read → Type 0
  HasSought r = r.place.sought ≡ true

  -- it has the chunk of this number opened
  abbrev pub HasChunk : StreamReader S R suite read → ℕ → Type 0
  HasChunk r number = (r.place.failed ≡ false) × HasOne r.cache number

  -- the number of the chunk that a read or a seek to the end used last, where it has it
  abbrev pub last_used_of : StreamReader S R suite read → Option ℕ
  last_used_of r = cond r.place.failed None (last_used r.cache)

  -- it comes to a chunk next that it has opened
  abbrev pub ComesToOpened : StreamReader S R suite read → Type 0
  ComesToOpened r = (r.place.held ≡ true → (r.cache.first.last ≡ false) × (r.place.at ≡ length r.cache.first.piece.items))
      × (has_number (cond r.place.held (r.place.number + 1) r.place.number) r.cache.other ≡ true)

  -- it has the chunk at the place opened
  abbrev pub IsHolding : StreamReader S R suite read → Type 0
  IsHolding r = (r.place.failed ≡ false) × (((r.place.held ≡ true) × (r.place.at < length r.cache.first.piece.items)) ⊎ ComesToOpened r)

  -- it has come through a chunk that it holds as the last
  abbrev pub IsAfterLast : StreamReader S R suite read → Type 0
  IsAfterLast r = (r.place.held ≡ true) × (r.cache.first.last ≡ true) × (r.place.at ≡ length r.cache.first.piece.items)

  -- it has the chunk of this number opened as the last
  abbrev pub HasEnd : StreamReader S R suite read → ℕ → Type 0
  HasEnd r number = ((r.place.held ≡ true) × (r.cache.first.last ≡ true) × (r.place.number ≡ number)) ⊎ HasLast r.cache number

  -- and that is the payload's last chunk
  abbrev pub HoldsEnd : StreamReader S R suite read → Type 0
  HoldsEnd r = (r.place.failed ≡ false) × HasEnd r (final_chunk (length (payload_of r).bytes))

  -- how often it opened a chunk
  abbrev pub opens_of : StreamReader S R suite read → ℕ
  opens_of r = r.opens

  -- ---- its members as a reader

  -- it tells its bytes where the inner reader tells its own and stays with them
  abbrev pub tells_of : StreamReader S R suite read → Bool
  tells_of r = tells_from r.source

  -- its content: the plaintext that its payload delivers
  abbrev pub content_of : StreamReader S R suite read → Stretch
  content_of r = payload_delivers suite.opened r.key 0 (payload_of r)

  -- it stays with its content where that ends well
  abbrev pub steady_of : StreamReader S R suite read → Bool
  steady_of r = tells_of r && (content_of r).ends_well

  -- how many bytes of the plaintext stand before the place
  abbrev pub place_of : StreamReader S R suite read → ℕ
  place_of r = 65536 * r.place.number + r.place.at

  -- what `{:?}` prints of it
  abbrev pub debug_reader : StreamReader S R suite read → List ℕ
  debug_reader r = codes "StreamReader { place: " ++ decimal (place_of r) ++ codes ", .. }"

  -- the plaintext that its reads can still deliver
  abbrev pub plain_rest_of : StreamReader S R suite read → Stretch
  plain_rest_of r = rest_of suite.opened r.key r.place r.cache (read.rest r.source.inner)

  -- how often the inner reader's device failed
  abbrev pub faults_of : StreamReader S R suite read → ℕ
  faults_of r = read.faults r.source.inner

  -- what it says of its payload
  abbrev pub stops_of : StreamReader S R suite read → Error → Type 0
  stops_of r = Stops suite.seal_of r.key (payload_of r) (IsTrue (tells_of r))

  -- with `Failed` once it has failed, else with what is wrong with the payload, for want of memory, or as the inner reader does
  abbrev pub refuses_of : StreamReader S R suite read → Error → Type 0
  refuses_of r e = (HasFailed r × (e ≡ Failed)) ⊎ OwnOrInner read (stops_of r) r.source.inner e
