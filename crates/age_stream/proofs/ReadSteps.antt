-- What a read comes to by its steps.
use Rattle.std.specs.Prelude.{◌≡◌, ℕ, ◌+◌, ◌-◌, true, List, length, min, take, Result, IfOk, IfErr, OnOk, Ok, Err}
use Rattle.std.proofs.Common.{arith, ap, ◌∙◌, refl, sym, subst, inr}
use Rattle.std.proofs.lemmas.Bool.{true≢false}
use Rattle.age_error.specs.declared.io.Error.{Error}
use Rattle.age_suite.specs.declared.suite.Suite.{Ghosts as SuiteGhosts}
use Rattle.age_io.specs.declared.traits.Read.{Ghosts}
use Rattle.age_io.specs.Reading.{Delivers, Reads}
use Rattle.age_io.specs.Stretch.{IsFault}
use Rattle.age_stream.specs.declared.reader.StreamReader.{StreamReader}
use Rattle.age_stream.specs.Cache.{last_used, HasOne}
use Rattle.age_stream.specs.PrivateKeeping.{KeepsPayload}
use Rattle.age_stream.specs.Reader.{tells_of, steady_of, content_of, place_of, plain_rest_of, faults_of, stops_of, refuses_of, IsAfterLast}
use Rattle.age_stream.specs.Reading.{spare}
use Rattle.age_stream.specs.PrivateSteps.{AnswersRead, EndsClean, GivesHeld, HasOpenedAt, Moves, OpensFew, ReadsChunks, RefusesPastLast, RefusesAtPlace, Stays, StaysAt, Told}
use Rattle.age_stream.proofs.Answered.{refuses-widened}
use Rattle.age_stream.proofs.Cached.{used-there}
use Rattle.age_stream.proofs.Holding.{rest_failed}
use Rattle.age_stream.proofs.Keeping.{content-kept, payload-refused, stream-kept, stream_narrows}

module _ {S R : Type 0} {suite : SuiteGhosts S} {read : Ghosts R} (old new : StreamReader S R suite read) (buf : List ℕ) where
  -- a read that is refused leaves the reader failed
  pub reads-refused : (e : Error) → KeepsPayload {T = Unit {0}} (stops_of old) old.source new.source (Err e)
      → new.key ≡ old.key → place_of new ≡ place_of old →
      new.place.failed ≡ true → Told old new e (IsFault (plain_rest_of old))
      → Reads tells_of steady_of content_of place_of plain_rest_of faults_of refuses_of old new buf (Err e)
  reads-refused e keeps key place failed cause = record {
    count = tt;
    same_tells = (stream-kept old new keeps key).0;
    same_steady = (stream-kept old new keeps key).1;
    no_fewer_faults = keeps.inner.same.faults;
    device = keeps.inner.device;
    unspent = tt;
    why = inr keeps.inner.why;
    narrows = tt;
    again = λ i. absurd (keeps.inner.patient i);
    same_content = content-kept old new keeps key;
    bytes = λ _. tt;
    moves = λ _. tt;
    end = λ _. tt;
    stays = λ _. place;
    left = λ _. inr (rest_failed suite.opened new.key new.place new.cache (read.rest new.source.inner) failed);
    interrupted = λ _ i. absurd (keeps.inner.patient i);
    cause = cause;
  }

  -- ---- a chunk that is refused

  pub answers-refused : (e : Error) → (IsAfterLast old → ⊥) → RefusesAtPlace old new e → AnswersRead old new buf buf (Err e)
  answers-refused e apart r = record {
    gives = λ _. tt;
    ended = λ _. tt;
    inner_end = λ _. tt;
    refused = λ told memory quiet. refuses-widened _ _ _ _ _ _ _ (r.refused told memory quiet);
    by_itself = λ told _. r.refused told;
    after_last = λ _ is. absurd (apart is);
    beyond = tt;
    untouched = refl;
  }

  -- ---- after the last chunk

  module _ (at_end : IsAfterLast old) (stays : Stays old new) where
    same-spare : spare new.place.held new.cache.first.last ≡ spare old.place.held old.cache.first.last
    same-spare = ap (λ h. spare h new.cache.first.last) stays.held ∙ ap (λ k. spare old.place.held k.first.last) stays.cache

    same-place : place_of new ≡ place_of old
    same-place = omega (arith, stays.number, stays.at)

    pub reads-end : (result : Result ℕ Error) → KeepsPayload (stops_of old) old.source new.source result
        → IfOk result (λ n. n ≡ 0) → OnOk result (EndsClean old new) →
        IfErr result (RefusesPastLast old new) → Reads tells_of steady_of content_of place_of plain_rest_of faults_of refuses_of old new buf result
    reads-end (Err e) keeps none ends r =
        reads-refused e (payload-refused old.source new.source e keeps) stays.key same-place r.fails r.cause
    reads-end (Ok n) keeps none ends r = record {
      count = omega (arith, none);
      same_tells = (stream-kept old new keeps stays.key).0;
      same_steady = (stream-kept old new keeps stays.key).1;
      no_fewer_faults = keeps.inner.same.faults;
      device = tt;
      unspent = λ _. new.unspent ends.good (stays.held ∙ at_end.0);
      why = tt;
      narrows = stream_narrows new.place.failed old new (λ is. absurd (true≢false (sym is ∙ ends.good))) keeps stays.key;
      again = tt;
      same_content = content-kept old new keeps stays.key;
      bytes = λ told. rw none (record { bytes = ap (λ s. s.bytes) (sym (ends.end told).1); end = ap (λ s. s.ends_well) (ends.end told).1 });
      moves = λ _. omega (arith, none, same-place);
      end = λ told _ _. (ends.end told).0;
      stays = λ _. tt;
      left = λ _. tt;
      interrupted = λ _. tt;
      cause = λ _. tt;
    }

    pub moves-end : new.place.sought ≡ old.place.sought → (result : Result ℕ Error) → IfOk result (λ n. n ≡ 0) → OnOk result (EndsClean old new)
        → IfErr result (RefusesPastLast old new) → Moves old new result
    moves-end sought (Ok n) none ends r =
        record { key = stays.key; sought = sought; good = ends.good; fails = tt; placed = omega (arith, none, same-place); stayed = tt }
    moves-end sought (Err e) none ends r = record { key = stays.key; sought = sought; good = tt; fails = r.fails; placed = tt; stayed = same-place }

    pub answers-end : (result : Result ℕ Error) → IfOk result (λ n. n ≡ 0) → OnOk result (EndsClean old new)
        → IfErr result (RefusesPastLast old new) → AnswersRead old new buf buf result
    answers-end (Ok n) none ends r = record {
      gives = λ _ some. absurd (omega (arith, none, some));
      ended = λ told _. ends.ended told;
      inner_end = ends.inner_end;
      refused = λ _. tt;
      by_itself = λ _ _. tt;
      after_last = λ _ _. tt;
      beyond = refl;
      untouched = tt;
    }
    answers-end (Err e) none ends r = record {
      gives = λ _. tt;
      ended = λ _. tt;
      inner_end = λ _. tt;
      refused = r.refused;
      by_itself = λ _ apart. absurd (apart at_end);
      after_last = λ told _. r.after_last told;
      beyond = tt;
      untouched = refl;
    }

    pub opens-end : (result : Result ℕ Error) → OpensFew old new result
    opens-end (Ok n) = record {
      counts = omega (arith, stays.opens);
      most = omega (arith, stays.opens);
      none = λ _. stays.opens;
      spared = omega (arith, stays.opens, stays.number, same-spare);
      spent = omega (arith, stays.opens, stays.number);
    }
    opens-end (Err e) = record {
      counts = omega (arith, stays.opens);
      most = omega (arith, stays.opens);
      none = λ _. stays.opens;
      spared = tt;
      spent = omega (arith, stays.opens, stays.number);
    }

    pub chunks-end : (result : Result ℕ Error) → IfOk result (λ n. n ≡ 0) → ReadsChunks old new result
    chunks-end (Err e) none = record {
      held = tt;
      at_end = λ _. stays.opens;
      opened = λ _. tt;
      uses = tt;
      keeps_last = tt;
      has = λ _. tt;
      same_last = λ _. tt;
      finds = tt;
    }
    chunks-end (Ok n) none = record {
      held = stays.held ∙ at_end.0;
      at_end = λ _. stays.opens;
      opened = λ _ some. absurd (omega (arith, none, some));
      uses = λ some. absurd (omega (arith, none, some));
      keeps_last = λ b is. subst (λ k. HasOne k b) (sym stays.cache) (used-there old.cache b is);
      has = λ _ b has. subst (λ k. HasOne k b) (sym stays.cache) has;
      same_last = λ _. ap last_used stays.cache;
      finds = λ some. absurd (omega (arith, none, some));
    }

module _ {S R : Type 0} {suite : SuiteGhosts S} {read : Ghosts R} (old mid new : StreamReader S R suite read) where
  -- bytes of a chunk that is held were given
  pub reads-given : (buf new_buf : List ℕ) (n : ℕ) → KeepsPayload (stops_of old) old.source new.source (Ok n)
      → StaysAt old mid → HasOpenedAt old mid → GivesHeld mid new →
      place_of new ≡ place_of mid + n → Delivers (take n new_buf) (plain_rest_of mid) (plain_rest_of new)
      → n ≡ min (length buf) (length mid.cache.first.piece.items - mid.place.at) →
      length new_buf ≡ length buf → Reads tells_of steady_of content_of place_of plain_rest_of faults_of refuses_of old new new_buf (Ok n)
  reads-given buf new_buf n keeps stays holds given moves bytes count long =
      let key = given.key ∙ stays.key in
      record {
        count = omega (arith, count, long);
        same_tells = (stream-kept old new keeps key).0;
        same_steady = (stream-kept old new keeps key).1;
        no_fewer_faults = keeps.inner.same.faults;
        device = tt;
        unspent = λ _. new.unspent given.good (given.held ∙ holds.good.1);
        why = tt;
        narrows = stream_narrows new.place.failed old new (λ is. absurd (true≢false (sym is ∙ given.good))) keeps key;
        again = tt;
        same_content = content-kept old new keeps key;
        bytes = λ told. subst (λ s. Delivers (take n new_buf) s (plain_rest_of new)) (holds.rest told) bytes;
        moves = λ _. moves ∙ ap (λ p. p + n) stays.place;
        end = λ told none some. holds.end told (omega (arith, count, long, none, some, (mid.chunk holds.good.1).in_chunk));
        stays = λ _. tt;
        left = λ _. tt;
        interrupted = λ _. tt;
        cause = λ _. tt;
      }
