-- What the steps of a seek do to what a `StreamReader` keeps.
use Rattle.std.specs.Prelude.{◌≡◌, ℕ, ◌+◌, ◌*◌, ◌^◌, ◌<◌, ◌≤◌, Option, Some, true, false, List, length}
use Rattle.std.proofs.Common.{sym, subst, ◌∙◌, arith}
use Rattle.std.proofs.lemmas.Bool.{true≢false}
use Rattle.age_error.specs.Bytes.{AreBytes}
use Rattle.age_v1.specs.Payload.{chunk_nonce}
use Rattle.age_v1.proofs.OpenedTexts.{Shorter}
use Rattle.age_io.specs.declared.traits.Read.{Ghosts}
use Rattle.age_stream.specs.declared.cache.Cache.{Cache}
use Rattle.age_stream.specs.declared.place.Place.{Place}
use Rattle.age_stream.specs.declared.source.Source.{Source}
use Rattle.age_stream.specs.Reading.{payload_from, IsAtFullEnd, IsHeld, IsInside, IsPast, IsSound}
use Rattle.age_v1.specs.DeliveredPayload.{IsLastChunk}
use Rattle.age_stream.proofs.Last.{IsLastText, inside-held, last-held, last-past}

module _ (opened : List ℕ → List ℕ → List ℕ → Option (List ℕ)) (key : List ℕ) {R : Type 0} {read : Ghosts R} (place now : Place)
    (cache new_cache : Cache) (source new : Source R read) (sound : IsSound opened key place cache source) where
  -- the inner reader was moved, and the reader has failed
  pub sound-moved : now.failed ≡ true → now.number ≡ place.number → now.at ≡ place.at → now.held ≡ place.held
      → new_cache.first.piece.items ≡ cache.first.piece.items → new_cache.first.last ≡ cache.first.last → payload_from new ≡ payload_from source →
      IsSound opened key now new_cache new
  sound-moved is number at held piece last same = record {
    inside = subst (λ p. IsInside (length p.bytes) now.number now.at) (sym same) (rw (number, at) sound.inside);
    before = λ good. absurd (true≢false (sym is ∙ good));
    is_held = λ held_now. subst (λ p. IsHeld opened key p now.number new_cache.first.last now.at new_cache.first.piece.items) (sym same)
        (rw (number, at, piece, last) (sound.is_held (sym held ∙ held_now)));
    is_past = λ good. absurd (true≢false (sym is ∙ good));
    front = λ _ good. absurd (true≢false (sym is ∙ good));
  }

  -- a reader that has failed holds no chunk
  pub sound-shut : now.failed ≡ true → now.held ≡ false → now.number ≡ place.number → now.at ≡ place.at → payload_from new ≡ payload_from source
      → IsSound opened key now new_cache new
  sound-shut is shut number at same = record {
    inside = subst (λ p. IsInside (length p.bytes) now.number now.at) (sym same) (rw (number, at) sound.inside);
    before = λ good. absurd (true≢false (sym is ∙ good));
    is_held = λ held_now. absurd (true≢false (sym held_now ∙ shut));
    is_past = λ good. absurd (true≢false (sym is ∙ good));
    front = λ _ good. absurd (true≢false (sym is ∙ good));
  }

  -- the inner reader was put after the chunk that is held, and the place is in it
  pub sound-kept : (law : Shorter opened key) → AreBytes (payload_from new).bytes → place.held ≡ true → now.number ≡ place.number
      → now.held ≡ true → now.sought ≡ true → new_cache.first.piece.items ≡ cache.first.piece.items → new_cache.first.last ≡ cache.first.last
      → payload_from new ≡ payload_from source → now.at ≤ length new_cache.first.piece.items →
      ((IsAtFullEnd (length (payload_from new).bytes) now.number now.at new_cache.first.last → ⊥)
      → IsAtFullEnd (length (payload_from new).bytes) now.number place.at new_cache.first.last → ⊥) →
      IsPast (payload_from new) now.number new_cache.first.last new.taken (read.rest new.inner) → IsSound opened key now new_cache new
  sound-kept law bytes was_held number is_held is_sought piece last same within apart past =
      let payload = payload_from new in
      let was : IsHeld opened key payload now.number new_cache.first.last place.at new_cache.first.piece.items =
      subst (λ p. IsHeld opened key p now.number new_cache.first.last place.at new_cache.first.piece.items) (sym same)
      (rw (number, piece, last) (sound.is_held was_held)) in
      record {
        inside = inside-held opened key law payload now.number place.at now.at new_cache.first.last new_cache.first.piece.items bytes was within;
        before = λ _ shut. absurd (true≢false (sym is_held ∙ shut));
        is_held = λ _. record { opens = was.opens; judged = λ apart_now. was.judged (apart apart_now); whole = was.whole; some = was.some };
        is_past = λ _ _. past;
        front = λ unsought. absurd (true≢false (sym is_sought ∙ unsought));
      }

module _ (opened : List ℕ → List ℕ → List ℕ → Option (List ℕ)) (key : List ℕ) {R : Type 0} {read : Ghosts R} (now : Place) (new_cache : Cache)
    (new : Source R read) (is_held : now.held ≡ true) (is_sought : now.sought ≡ true) where
  -- the inner reader was put after a chunk that is opened by the verdict on it, and the place is in it
  pub sound-resumed : (law : Shorter opened key) → AreBytes (payload_from new).bytes → now.at ≤ length new_cache.first.piece.items →
      IsHeld opened key (payload_from new) now.number new_cache.first.last 0 new_cache.first.piece.items
      → IsPast (payload_from new) now.number new_cache.first.last new.taken (read.rest new.inner) → IsSound opened key now new_cache new
  sound-resumed law bytes within was past = record {
    inside = inside-held opened key law (payload_from new) now.number 0 now.at new_cache.first.last new_cache.first.piece.items bytes was within;
    before = λ _ shut. absurd (true≢false (sym is_held ∙ shut));
    is_held = λ _. record { opens = was.opens; judged = λ _. was.judged (λ e. absurd (omega (arith, e.full))); whole = was.whole; some = was.some };
    is_past = λ _ _. past;
    front = λ unsought. absurd (true≢false (sym is_sought ∙ unsought));
  }

  -- the last chunk was opened as the last, and the place is its end
  pub sound-last : (source : Source R read) (text : List ℕ) → payload_from new ≡ payload_from source → new.taken ≡ source.taken + length text
      → source.taken ≡ 65552 * now.number → IsLastText (payload_from source) (read.rest new.inner) now.number text →
      IsLastChunk (length (payload_from source).bytes) now.number → now.number < 2 ^ 44 → length new_cache.first.piece.items + 16 ≡ length text
      → now.at ≡ length new_cache.first.piece.items → new_cache.first.last ≡ true →
      opened key (chunk_nonce now.number true) text ≡ Some new_cache.first.piece.items → IsSound opened key now new_cache new
  sound-last source text same took stood t last_one few longer given last is =
      let payload = payload_from source in
      let rest = read.rest new.inner in
      let plain = new_cache.first.piece.items in
      record {
        inside = subst (λ p. IsInside (length p.bytes) now.number now.at) (sym same) (record {
          front = omega (arith, t.long);
          inside = λ _. omega (arith, t.long, longer, given);
        });
        before = λ _ shut. absurd (true≢false (sym is_held ∙ shut));
        is_held = λ _. subst (λ p. IsHeld opened key p now.number new_cache.first.last now.at plain) (sym same)
            (rw last (last-held opened key payload rest now.number now.at text plain t last_one few longer given is));
        is_past = λ _ _. subst (λ p. IsPast p now.number new_cache.first.last new.taken rest) (sym same)
            (rw last (last-past payload rest now.number new.taken text t last_one (omega (arith, took, stood))));
        front = λ unsought. absurd (true≢false (sym is_sought ∙ unsought));
      }
