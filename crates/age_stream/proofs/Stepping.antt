-- Steps that follow one another.
use Rattle.std.specs.Prelude.{◌≡◌, ℕ, ◌+◌, ◌≤◌, ◌⊎◌, Bool, false, true, IsTrue, cond, None, Some, option_map, length, Result, OnOk, Ok}
use Rattle.std.proofs.Common.{arith, ap, ◌∙◌, sym, subst, inl, inr}
use Rattle.std.proofs.lemmas.Bool.{true≢false}
use Rattle.std.proofs.lemmas.Result.{on_ok_weaker}
use Rattle.age_error.specs.declared.io.Error.{Error}
use Rattle.age_suite.specs.Suite.{one_more}
use Rattle.age_suite.specs.declared.suite.Suite.{Ghosts as SuiteGhosts}
use Rattle.age_io.specs.declared.traits.Read.{Ghosts}
use Rattle.age_io.specs.Stretch.{IsCleanEnd, IsFault}
use Rattle.age_stream.specs.declared.reader.StreamReader.{StreamReader}
use Rattle.age_stream.specs.Cache.{has_number, last_used, HasLast, HasOne}
use Rattle.age_v1.specs.Payload.{final_chunk}
use Rattle.age_stream.specs.Reader.{payload_of, place_of, tells_of, HasEnd, IsHolding}
use Rattle.age_stream.specs.Reading.{spare, tells_from}
use Rattle.age_stream.specs.PrivateSource.{RefusesPlace}
use Rattle.age_stream.specs.PrivateSteps.{EntersEnd, HasOpenedAt, KeepsAtEnd, KeepsBesideLast, OpensFew, PassesOn, RefusesAtPlace, RefusesStep}
use Rattle.age_io.specs.ReadingLemmas.{quiet_from}
use Rattle.age_io.specs.Turns.{GivesTried}
use Rattle.age_stream.specs.PrivateKeeping.{KeepsPayload}
use Rattle.age_stream.specs.Naming.{RefusedBelow, RefusesText}
use Rattle.age_v1.specs.DeliveredPayload.{chunk_of}
use Rattle.age_stream.proofs.Holding.{spare-none}
use Rattle.age_stream.proofs.Keeping.{told-later}

module _ {S R : Type 0} {suite : SuiteGhosts S} {read : Ghosts R} where
  -- a reader that holds no chunk has the one at the place opened where that is the other one that it keeps
  pub has-next : (r : StreamReader S R suite read) → r.place.held ≡ false → IsHolding r → has_number r.place.number r.cache.other ≡ true
  has-next r closed here = elim here.1 [
    | inl is ↦ absurd (true≢false (sym is.0 ∙ closed))
    | inr next ↦ rw closed at next.1
  ]

  pub next-held : (r : StreamReader S R suite read) → r.place.failed ≡ false → r.place.held ≡ false
      → has_number r.place.number r.cache.other ≡ true → IsHolding r
  next-held r good closed has = (good, inr ((λ is. absurd (true≢false (sym is ∙ closed))), rw closed has))

  -- the chunk at the place was opened, or refused
  pub opens-next : {T : Type 0} (old new : StreamReader S R suite read) (result : Result T Error) → old.place.held ≡ false
      → new.place.number ≡ old.place.number
      → old.opens ≤ new.opens →
      new.opens ≤ old.opens + 2 → (has_number old.place.number old.cache.other ≡ true → new.opens ≡ old.opens) →
      OnOk result (new.opens + spare new.place.held new.cache.first.last ≤ old.opens + 2) → OpensFew old new result
  opens-next old new result closed same counts most none spared =
      let two = spare-none old.place.held old.cache.first.last closed in
      record {
        counts = counts;
        most = most;
        none = λ here. none (has-next old closed here);
        spared = on_ok_weaker result (λ s. omega (arith, s, two, same)) spared;
        spent = omega (arith, most, two, same);
      }

  module _ (old mid new : StreamReader S R suite read) (passes : PassesOn old mid)
      (holding : (IsHolding old → IsHolding mid) × (IsHolding mid → IsHolding old)) where
    told-passed : IsTrue (tells_of old) → IsTrue (tells_of mid)
    told-passed told = subst (λ s. IsTrue (tells_from s)) (sym passes.source) told

    -- a chunk is held, after a middle one was given whole
    pub holds-passed : HasOpenedAt mid new → HasOpenedAt old new
    holds-passed h = record {
      good = h.good;
      rest = λ told. h.rest (told-passed told) ∙ passes.rest;
      end = λ told given. subst IsCleanEnd passes.rest (h.end (told-passed told) given);
      ended = λ told given. rw (passes.key, passes.source, passes.place) at (h.ended (told-passed told) given);
      inner_end = λ told. h.inner_end (told-passed told) ∙ ap (λ s. (read.rest s.inner).ends_well) passes.source;
      opened = λ none. subst (λ n. one_more n ≤ new.opens) passes.opens (h.opened (λ here. none (holding.1 here)));
      keeps_last = λ b is. h.keeps_last b (ap last_used passes.cache ∙ is);
      has = λ here b one. h.has (holding.0 here) b (subst (λ k. HasOne k b) (sym passes.cache) one);
    }

    pub refuses-passed : (e : Error) → RefusesAtPlace mid new e → RefusesAtPlace old new e
    refuses-passed e r = record {
      fails = r.fails;
      cause = λ told memory quiet. subst IsFault passes.rest (r.cause (told-passed told) memory (rw passes.source quiet));
      refused = λ told memory quiet. rw (passes.key, passes.source, passes.place, passes.wanted) at (r.refused
          (told-passed told) memory (rw passes.source quiet));
    }

    pub says-passed : (e : Error) → RefusedBelow read 65552 mid.source.inner new.source.inner e ⊎ RefusesText mid new e
        → RefusedBelow read 65552 old.source.inner new.source.inner e ⊎ RefusesText old new e
    says-passed e h = elim h [
      | inl below ↦ inl (rw passes.source at below)
      | inr r ↦ inr (record {
        text = r.text;
        came = subst (λ s. GivesTried read 65552 r.text s.inner new.source.inner) passes.source r.came;
        number = r.number;
        from = omega (arith, r.from, passes.place);
        to = omega (arith, r.to, passes.place);
        why = elim r.why [
          | inl want ↦ inl want
          | inr more ↦ elim more [
            | inl bad ↦ inr (inl (ap (λ k. chunk_of suite.opened k r.number r.text) (sym passes.key) ∙ bad))
            | inr short ↦ inr (inr (short.0, omega (arith, short.1, passes.place)))
          ]
        ];
      })
    ]

    pub opens-passed : {T : Type 0} (result : Result T Error)
        → mid.opens + spare mid.place.held mid.cache.first.last + old.place.number ≤ old.opens + spare old.place.held old.cache.first.last +
        mid.place.number →
        OpensFew mid new result → OpensFew old new result
    opens-passed result spared few = record {
      counts = omega (arith, few.counts, passes.opens);
      most = omega (arith, few.most, passes.opens);
      none = λ here. few.none (holding.0 here) ∙ passes.opens;
      spared = on_ok_weaker result (λ s. omega (arith, s, spared)) few.spared;
      spent = omega (arith, few.spent, spared);
    }

  -- ---- steps of a seek

  -- the inner reader isn't found, or isn't put in its place, and the reader stands where it stood
  pub step-placed : (old new : StreamReader S R suite read) {Cause : Error → Type 0} (e : Error) → new.place.failed ≡ true
      → place_of new ≡ place_of old → RefusesPlace old.source new.source e → RefusesStep old new Cause e
  step-placed old new e failed place r = record {
    fails = failed;
    place = place;
    refusal = r.refusal;
    cause = λ told well memory quiet. absurd (r.cause told well memory quiet);
  }

  -- and after another step
  pub step-later : {T U : Type 0} {x : T} {Own Other : Error → Type 0} {result : Result U Error}
      (old mid new : StreamReader S R suite read) {Cause More : Error → Type 0} (e : Error) →
      KeepsPayload Own old.source mid.source (Ok x)
      → KeepsPayload Other mid.source new.source result → place_of mid ≡ place_of old →
      (IsTrue (tells_of old) → Cause e → More e) → RefusesStep mid new Cause e → RefusesStep old new More e
  step-later old mid new e first second place more r = record {
    fails = r.fails;
    place = r.place ∙ place;
    refusal = r.refusal;
    cause = λ told well memory quiet.
        more told (r.cause (told-later read old.source.inner mid.source.inner first.inner.same told) (ap (λ p. p.ends_well) (first.payload told)
        ∙ well) memory
        (quiet_from first.inner.same.faults second.inner.same.faults quiet));
  }

  -- what was held or kept as the last still is once the inner reader was asked
  pub end-looked : (old mid : StreamReader S R suite read) → mid.place.held ≡ old.place.held → mid.cache ≡ old.cache
      → mid.place.number ≡ old.place.number → (size : ℕ)
      → size ≡ length (payload_of old).bytes →
      HasEnd old (final_chunk (length (payload_of old).bytes)) → HasEnd mid (final_chunk size)
  end-looked old mid held cache number size same is = elim is [
    | inl h ↦ inl (held ∙ h.0, ap (λ k. k.first.last) cache ∙ h.1, number ∙ h.2 ∙ ap final_chunk (sym same))
    | inr h ↦ inr (subst (λ k. HasLast k (final_chunk size)) (sym cache) (subst (λ n. HasLast old.cache (final_chunk n)) (sym same) h))
  ]

  -- the last chunk was opened, after another step
  pub enters-later : {T : Type 0} {x : T} {Own : Error → Type 0} (old mid new : StreamReader S R suite read) (number there len : ℕ) →
      KeepsPayload Own old.source mid.source (Ok x) → (IsTrue (tells_of old) → there ≡ len)
      → EntersEnd mid new number there → EntersEnd old new number len
  enters-later old mid new number there len first same e = record {
    good = e.good;
    arrives = λ told. e.arrives (told-later read old.source.inner mid.source.inner first.inner.same told) ∙ same told;
    inner_end = λ told. e.inner_end (told-later read old.source.inner mid.source.inner first.inner.same told)
        ∙ ap (λ p. p.ends_well) (first.payload told);
  }

  -- Beside it there is what was there before, which is none of a reader that had failed.
  pub keeps-at-end : (old mid new : StreamReader S R suite read) (number : ℕ) (was_failed : Bool)
      → (was_failed ≡ true → (b : ℕ) → HasOne mid.cache b → ⊥) →
      (was_failed ≡ false → last_used mid.cache ≡ last_used old.cache) → (was_failed ≡ false → HasEnd old number → ⊥)
      → KeepsBesideLast mid new number → KeepsAtEnd old new number was_failed
  keeps-at-end old mid new number was_failed none same apart kept = record {
    alone = λ failed b has. elim (kept.had b has) [ inl is ↦ is | inr was ↦ absurd (none failed b was) ];
    uses = λ judged. ap (λ u. cond u (cond new.cache.judged (Some new.cache.first.number) None) (option_map (λ it. it.number) new.cache.other))
        kept.used.0
        ∙ ap (λ j. cond j (Some new.cache.first.number) None) judged ∙ ap (λ n. Some n) kept.used.1;
    keeps_last = λ good b is. kept.keeps_last b (same good ∙ is);
    has = λ good is. absurd (apart good is);
  }
