-- The chunk at the place is read and opened.
use Rattle.std.specs.Prelude.{◌≡◌, ℕ, ◌<◌, ◌≤◌, false, true, IsTrue, length, take, Ok, Err}
use Rattle.std.proofs.Common.{arith, ap, ◌∙◌, sym, subst, length-take-le}
use Rattle.age_error.specs.Bytes.{AreBytes}
use Rattle.age_error.specs.declared.io.Error.{Error}
use Rattle.age_suite.specs.Suite.{IsCipher}
use Rattle.age_suite.specs.declared.suite.Suite.{Ghosts as SuiteGhosts}
use Rattle.age_io.specs.declared.traits.Read.{Ghosts}
use Rattle.age_io.specs.Reading.{StandsIn}
use Rattle.age_io.specs.Stretch.{Stretch}
use Rattle.age_stream.specs.declared.cache.Cache.{Cache}
use Rattle.age_stream.specs.declared.reader.StreamReader.{StreamReader}
use Rattle.age_stream.specs.PrivateCache.{IsKept, IsText}
use Rattle.age_stream.specs.PrivateKeeping.{KeepsPayload}
use Rattle.age_v1.proofs.OpenedTexts.{shorter}
use Rattle.age_stream.specs.Reader.{payload_of, tells_of}
use Rattle.age_stream.specs.declared.place.Place.{Place}
use Rattle.age_stream.specs.declared.source.Source.{Source}
use Rattle.age_v1.specs.DeliveredPayload.{chunk_of}
use Rattle.age_v1.specs.PayloadRefusals.{StopsAt}
use Rattle.age_stream.specs.Reading.{payload_at, payload_from, tells_from, IsSound, TookText}
use Rattle.age_stream.specs.ReadingLemmas.{and-left, and-right}
use Rattle.age_stream.specs.PrivateSource.{TakesBytes}
use Rattle.age_stream.proofs.Answered.{refuses-chunk}
use Rattle.age_stream.proofs.Cached.{brought, is-text, IsOpenedText}
use Rattle.age_stream.proofs.Holding.{opened-before, sound-opened, StandsAt}
use Rattle.age_stream.proofs.Keeping.{told-before}
use Rattle.age_stream.proofs.Moving.{sound-shut}

module _ {S R : Type 0} {suite : SuiteGhosts S} {read : Ghosts R} (old : StreamReader S R suite read) (mid : Source R read)
    (cipher : IsCipher suite.seal_of suite.opened)
    (are : (r : R) → IsTrue (read.tells r) → AreBytes (read.content r).bytes)
    (stand : (r : R) → IsTrue (read.tells r) → IsTrue (read.steady r) → StandsIn (read.content r) (read.place r) (read.rest r))
    (good : old.place.failed ≡ false) (closed : old.place.held ≡ false) (count : ℕ) (takes : TakesBytes 65552 old.source mid count)
    {T : Type 0} {x : T} {Own : Error → Type 0} (keeps : KeepsPayload Own old.source mid (Ok x)) where
  before : IsTrue (tells_from mid) → IsTrue (tells_of old)
  before = told-before read old.source.inner mid.inner keeps.inner.same

  -- what came is the text of that chunk
  text-came : IsTrue (tells_of old) → IsText (payload_of old) old.place.number (take count mid.room.items)
  text-came told =
      let source = old.source in
      is-text (read.content source.inner) (read.rest source.inner) (read.rest mid.inner) (read.place source.inner) source.taken old.place.number
      (take count mid.room.items)
      (stand source.inner (and-left _ _ told) (and-right _ _ told)) (source.fits told) ((old.sound told).before good closed).stood
      (takes.took (and-left _ _ told))

  -- why it is refused
  pub text-refused : (e : Error) → IsTrue (tells_of old) → chunk_of suite.opened old.key old.place.number (take count mid.room.items) ≡ Err e
      → StopsAt suite.seal_of old.key (payload_of old).bytes old.place.number e
  text-refused e told bad =
      let source = old.source in
      let t = and-left (read.tells source.inner) (read.steady source.inner) told in
      let s = and-right (read.tells source.inner) (read.steady source.inner) told in
      let sound = old.sound told in
      refuses-chunk suite.seal_of suite.opened cipher old.key old.key_bytes (read.content source.inner) (read.rest source.inner) (read.rest mid.inner)
      (read.place source.inner) source.taken old.place.number (take count mid.room.items) e (are source.inner t) (stand source.inner t s)
      (source.fits told) (sound.before good closed).stood sound.inside.front (takes.took t) bad

  module _ (cache : Cache)
      (brings : (payload : Stretch) → IsKept suite.opened old.key payload old.cache → IsText payload old.place.number (take count mid.room.items)
      → IsKept suite.opened old.key payload cache) where
    -- the chunks that are kept then are of this payload
    pub kept-brought : IsTrue (tells_from mid) → IsKept suite.opened old.key (payload_from mid) cache
    kept-brought told =
        let b = before told in
        subst (λ p. IsKept suite.opened old.key p cache) (sym (keeps.payload b)) (brings (payload_of old) (old.kept b) (text-came b))

    -- whatever they are, the reader has failed until one of them is held
    pub sound-unopened : (now : Place) (new_cache : Cache) (new : Source R read) → now.failed ≡ true → now.held ≡ false
        → now.number ≡ old.place.number → now.at ≡ old.place.at → payload_from new ≡ payload_from mid → IsTrue (tells_from mid)
        → IsSound suite.opened old.key now new_cache new
    sound-unopened now new_cache new failed shut number at same told =
        let b = before told in
        sound-shut suite.opened old.key old.place now old.cache new_cache old.source new (old.sound b) failed shut number at
        (same ∙ keeps.payload b)

    module _ (first : (cache.judged ≡ true) × (cache.first.number ≡ old.place.number) × (cache.used ≡ true)) where
      -- the first of them is that of the text
      pub opened-text : IsTrue (tells_of old) → IsOpenedText suite.opened old.key old.place.number
          (take count mid.room.items) cache.first.piece.items cache.first.last
      opened-text told =
          let t = and-left _ _ told in
          let source = old.source in
          brought suite.opened old.key (shorter suite.seal_of suite.opened cipher old.key old.key_bytes) (read.content source.inner)
          (read.rest source.inner) (read.rest mid.inner)
          (read.place source.inner) source.taken old.place.number (take count mid.room.items) cache (are source.inner t)
          (stand source.inner t (and-right _ _ told)) (source.fits told) ((old.sound told).before good closed).stood (takes.took t) first
          (brings (payload_of old) (old.kept told))

      -- and the place is in it
      pub inside-text : IsTrue (tells_of old) → 0 < old.place.at → old.place.at < length cache.first.piece.items
      inside-text told =
          let t = and-left _ _ told in
          let source = old.source in
          opened-before (read.content source.inner) (read.rest source.inner) (read.rest mid.inner) (read.place source.inner) source.taken
          old.place.number old.place.at (take count mid.room.items)
          (length cache.first.piece.items) (stand source.inner t (and-right _ _ told)) (source.fits told) ((old.sound told).before good closed)
          (takes.took t) (opened-text told).longer

      pub sound-held : (now : Place) (new_cache : Cache) (new : Source R read) → old.place.at ≤ length cache.first.piece.items
          → StandsAt now old.place.number old.place.at true old.place.sought → new_cache.first.piece.items ≡ cache.first.piece.items
          → new_cache.first.last ≡ cache.first.last
          → new.inner ≡ mid.inner → new.taken ≡ mid.taken → IsTrue (tells_from mid) → IsSound suite.opened old.key now new_cache new
      sound-held now new_cache new within there piece last inner taken told =
          let b = before told in
          let source = old.source in
          let t = and-left (read.tells source.inner) (read.steady source.inner) b in
          let text = take count mid.room.items in
          let long : length text ≡ count = length-take-le count mid.room.items (omega (arith, takes.most, mid.size)) in
          let is = opened-text b in
          let same : payload_from new ≡ payload_from mid = ap (λ r. payload_at (read.place r) new.taken (read.content r)) inner
          ∙ ap (λ n. payload_at (read.place mid.inner) n (read.content mid.inner)) taken in
          let took : TookText (read.rest source.inner) (read.rest new.inner) text =
          subst (λ r. TookText (read.rest source.inner) (read.rest r) text) (sym inner) (takes.took t) in
          let short : length text < 65552 → new_cache.first.last ≡ true = λ less. last ∙ is.short less in
          let ok : chunk_of suite.opened old.key old.place.number text ≡ Ok (new_cache.first.piece.items, new_cache.first.last) =
          is.ok ∙ ap (λ l. Ok (cache.first.piece.items, l)) (sym last) ∙ ap (λ p. Ok (p, new_cache.first.last)) (sym piece) in
          sound-opened suite.opened old.key old.place old.cache source (old.sound b) now new_cache new text b (same ∙ keeps.payload b)
          (omega (arith, taken, (takes.moves b).1, long)) good closed (omega (arith, within, ap length piece))
          (stand source.inner t (and-right _ _ b)) took short ok there
