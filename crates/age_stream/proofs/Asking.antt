-- What a reader of a payload always is, where its inner reader was asked for bytes or another place, and the payload begins where it did.
use Rattle.std.specs.Prelude.{◌≡◌, ◌^◌, ◌<◌, false, true, IsTrue, ℕ, Option, List, Result}
use Rattle.std.proofs.Common.{refl, sym, ◌∙◌}
use Rattle.std.proofs.lemmas.Bool.{true≢false}
use Rattle.age_error.specs.Bytes.{AreBytesOf}
use Rattle.age_error.specs.declared.io.Error.{Error}
use Rattle.age_suite.specs.declared.suite.Suite.{Ghosts as SuiteGhosts}
use Rattle.age_io.specs.declared.traits.Read.{Ghosts}
use Rattle.age_io.specs.Reading.{most_faults}
use Rattle.age_io.specs.Stretch.{Stretch}
use Rattle.age_stream.specs.declared.cache.Cache.{Cache}
use Rattle.age_stream.specs.declared.place.Place.{Place}
use Rattle.age_stream.specs.declared.reader.StreamReader.{StreamReader}
use Rattle.age_stream.specs.declared.source.Source.{Source}
use Rattle.age_stream.specs.PrivateCache.{IsAtChunk, IsKept}
use Rattle.age_stream.specs.PrivateKeeping.{KeepsPayload}
use Rattle.age_stream.specs.Reading.{payload_from, tells_from, IsSound}
use Rattle.age_stream.proofs.Cached.{kept-same}
use Rattle.age_stream.proofs.Keeping.{told-before}
use Rattle.age_stream.proofs.Moving.{sound-moved, sound-shut}

-- the ghost fields
abbrev pub IsReader : {R : Type 0} {read : Ghosts R} → (opened : List ℕ → List ℕ → List ℕ → Option (List ℕ)) (key : List ℕ) → Place → Cache
    → Source R read
    → (opens : ℕ) → Type 0
IsReader {R} {read} opened key place cache source opens = record {
  key_bytes : AreBytesOf 32 key;
  chunk : place.held ≡ true → IsAtChunk place.number place.at cache;
  count_fits : opens < 2 ^ 64;
  unspent : place.failed ≡ false → place.held ≡ true → read.faults source.inner < most_faults;
  kept : IsTrue (tells_from source) → IsKept opened key (payload_from source) cache;
  sound : IsTrue (tells_from source) → IsSound opened key place cache source;
}

module _ {S R : Type 0} {suite : SuiteGhosts S} {read : Ghosts R} where
  -- it has failed until what came is found good
  pub reader-asked : (self : StreamReader S R suite read) (now : Place) (after : Source R read) → now.failed ≡ true
      → now.number ≡ self.place.number → now.at ≡ self.place.at → now.held ≡ self.place.held →
      {T : Type 0} {Own : Error → Type 0} {result : Result T Error} → KeepsPayload Own self.source after result
      → IsReader suite.opened self.key now self.cache after self.opens
  reader-asked self now after is number at held keeps =
      let before = told-before read self.source.inner after.inner keeps.inner.same in
      record {
        key_bytes = self.key_bytes;
        chunk = λ held_now. rw (number, at) (self.chunk (sym held ∙ held_now));
        count_fits = self.count_fits;
        unspent = λ good. absurd (true≢false (sym is ∙ good));
        kept = λ told. kept-same suite.opened self.key self.cache _ _ (keeps.payload (before told)) (self.kept (before told));
        sound = λ told. sound-moved suite.opened self.key self.place now self.cache self.cache self.source after (self.sound (before told)) is number
            at held refl refl (keeps.payload (before told));
      }

  -- and holds no chunk, whatever it keeps
  pub reader-shut : (self : StreamReader S R suite read) (now : Place) (cache : Cache) (after : Source R read) → now.failed ≡ true → now.held ≡ false
      → now.number ≡ self.place.number → now.at ≡ self.place.at →
      ((payload : Stretch) → IsKept suite.opened self.key payload self.cache → IsKept suite.opened self.key payload cache) →
      {T : Type 0} {Own : Error → Type 0} {result : Result T Error} → KeepsPayload Own self.source after result
      → IsReader suite.opened self.key now cache after self.opens
  reader-shut self now cache after is shut number at brings keeps =
      let before = told-before read self.source.inner after.inner keeps.inner.same in
      record {
        key_bytes = self.key_bytes;
        chunk = λ held. absurd (true≢false (sym held ∙ shut));
        count_fits = self.count_fits;
        unspent = λ good. absurd (true≢false (sym is ∙ good));
        kept = λ told. brings (payload_from after) (kept-same suite.opened self.key self.cache _ _ (keeps.payload (before told)) (self.kept (before
            told)));
        sound = λ told. sound-shut suite.opened self.key self.place now self.cache cache self.source after (self.sound (before told)) is shut number
            at
            (keeps.payload (before told));
      }
