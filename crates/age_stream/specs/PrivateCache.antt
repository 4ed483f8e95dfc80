-- What the private steps of the chunks that a reader has opened say.
use Rattle.std.specs.Prelude.{List, Option, Some, false, length, true, ℕ, ◌+◌, ◌<◌, ◌^◌, ◌≡◌, ◌≤◌}
use Rattle.age_suite.specs.Suite.{one_more}
use Rattle.age_io.specs.Stretch.{Stretch}
use Rattle.age_stream.specs.declared.cache.Cache.{Cache}
use Rattle.age_stream.specs.declared.cache.Opened.{Opened}
use Rattle.age_stream.specs.Reading.{IsHeld}
use Rattle.age_v1.specs.DeliveredPayload.{text_at}
use Rattle.age_stream.specs.PrivateWholeness.{IsUnjudged}
use Rattle.age_stream.specs.Cache.{HasOne, has_number, last_used}

-- The first of them is the chunk at the place, which has a byte there or ends
-- there. One that is held without the verdict on it is a full one, as the last.
pub record IsAtChunk (number at : ℕ) (cache : Cache) : Type 0 where
  pub in_chunk : at ≤ length cache.first.piece.items
  pub small : length cache.first.piece.items ≤ 65536
  pub more : number < 2 ^ 44
  pub full : cache.first.last ≡ false → length cache.first.piece.items ≡ 65536
  pub first : cache.first.number ≡ number
  pub unjudged : cache.judged ≡ false → IsUnjudged at cache.first.last cache.first.piece.items

-- Both are chunks of the payload, by the verdict on them.
pub record IsKept (opened : List ℕ → List ℕ → List ℕ → Option (List ℕ)) (key : List ℕ) (payload : Stretch) (cache : Cache) : Type 0 where
  pub first : cache.judged ≡ true → IsHeld opened key payload cache.first.number cache.first.last 0 cache.first.piece.items
  pub other : (it : Opened) → cache.other ≡ Some it → IsHeld opened key payload it.number it.last 0 it.piece.items

-- The text of this chunk was read.
pub record IsText (payload : Stretch) (number : ℕ) (text : List ℕ) : Type 0 where
  pub is : text_at number payload ≡ text
  pub ended : length text < 65552 → payload.ends_well ≡ true

-- Both are there as before, in whichever order, and the one that was used last is the same.
pub record SameChunks (old new : Cache) : Type 0 where
  pub has : (b : ℕ) → HasOne old b → HasOne new b
  pub had : (b : ℕ) → HasOne new b → HasOne old b
  pub same_last : last_used new ≡ last_used old

-- The chunk of this number was brought to the front, by so many openings as there were
-- before and after. The one that was used last is there, and both are where none was opened.
pub record Brings (number : ℕ) (old new : Cache) (before after : ℕ) : Type 0 where
  pub first : (new.judged ≡ true) × (new.first.number ≡ number) × (new.used ≡ true)
  pub keeps_last : (b : ℕ) → last_used old ≡ Some b → HasOne new b
  pub keeps : has_number number old.other ≡ true → (b : ℕ) → HasOne old b → HasOne new b
  pub middle : new.first.last ≡ false → after ≤ before + 1
  pub opened : before < 2 ^ 64 → (has_number number old.other ≡ true → ⊥) → one_more before ≤ after
