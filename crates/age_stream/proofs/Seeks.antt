-- What a seek comes to by its steps.
use Rattle.std.specs.Prelude.{◌≡◌, ℕ, ◌+◌, ◌-◌, ◌*◌, ◌/◌, ◌^◌, ◌<◌, ◌≤◌, ◌⊎◌, false, true, IsTrue, Some, length, Result, IsErrAnd, Ok, Err}
use Rattle.std.proofs.Common.{arith, ap, ◌∙◌, refl, sym, subst, inl, inr}
use Rattle.std.proofs.lemmas.Bool.{true≢false, true_from_ne_false}
use Rattle.std.proofs.lemmas.List.Elements.{All-drop}
use Rattle.age_error.specs.Bytes.{AreBytes}
use Rattle.age_error.specs.declared.io.Error.{Error}
use Rattle.age_error.specs.declared.io.SeekFrom.{SeekFrom}
use Rattle.age_suite.specs.declared.suite.Suite.{Ghosts as SuiteGhosts}
use Rattle.age_suite.specs.Suite.{IsCipher}
use Rattle.age_io.specs.declared.traits.Read.{Ghosts}
use Rattle.age_io.specs.Cursor.{IsOutside, IsSeekRefusal, MayLead, OrTooLong, Seeks, sought}
use Rattle.age_io.specs.Reading.{most_faults, StandsIn}
use Rattle.age_io.specs.Stretch.{from_place}
use Rattle.age_stream.specs.declared.reader.StreamReader.{StreamReader}
use Rattle.age_stream.specs.Keeping.{OwnOrInner}
use Rattle.age_stream.specs.PrivateKeeping.{IsPayloadSeekRefusal, KeepsPayload}
use Rattle.age_v1.proofs.OpenedTexts.{shorter}
use Rattle.age_stream.specs.Cache.{last_used, HasOne}
use Rattle.age_v1.specs.Payload.{final_chunk, chunk_nonce, plain_len}
use Rattle.age_v1.specs.DeliveredPayload.{text_at}
use Rattle.age_stream.specs.ReadingLemmas.{and-left, and-right, taken-rest}
use Rattle.age_stream.specs.Reader.{payload_of, tells_of, steady_of, content_of, place_of, plain_rest_of, faults_of, stops_of, refuses_of, HasEnd, HoldsEnd}
use Rattle.age_stream.specs.declared.source.Source.{Source}
use Rattle.age_stream.specs.Reading.{payload_from, rest_of, tells_from}
use Rattle.age_stream.specs.Naming.{SaysWhySeek}
use Rattle.age_stream.specs.Seeking.{FindsTarget, RefusesTarget, SeeksPayload, ToEnd}
use Rattle.age_stream.specs.PrivateSteps.{Enters, EntersEnd, KeepsAtEnd, Quietly, Stays}
use Rattle.age_v1.specs.PayloadTargets.{below_start, in_length, IsRefusedTarget}
use Rattle.age_stream.proofs.Cached.{used-good, used-there}
use Rattle.age_stream.proofs.Ending.{err-well, ok-well, not-both, in_length-leads, is-end, not-end}
use Rattle.age_stream.proofs.Holding.{rest-like}
use Rattle.age_stream.proofs.Inner.{payload-place}
use Rattle.age_v1.proofs.JudgedChunks.{ends_last}
use Rattle.age_stream.proofs.Keeping.{content-kept, own-refusal, payload-done, payload-later, stream-kept, stream_narrows, told-later}
use Rattle.age_v1.proofs.PayloadLengths.{plain_len_says}
use Rattle.age_stream.proofs.Sound.{inner-well, now-sound, rest-kept}
use Rattle.age_stream.proofs.Stepping.{end-looked}

module _ {S R : Type 0} {suite : SuiteGhosts S} {read : Ghosts R} where
  -- why a seek is refused, told of the reader itself
  pub sought-why : (below : Error → Type 0) (r : StreamReader S R suite read) (e : Error)
      → OwnOrInner read (IsPayloadSeekRefusal below) r.source.inner e →
      IsSeekRefusal (OrTooLong below) e ⊎ refuses_of r e
  sought-why below r e h = elim h [
    | inl own ↦ elim own [
      | inl seek ↦ inl seek
      | inr payload ↦ elim payload [
        | inl bad ↦ inr (inr (inl (subst (stops_of r) (sym bad) (record { is = tt; named = λ told. inl refl }))))
        | inr memory ↦ inr (inr (inl (subst (stops_of r) (sym memory) (record { is = tt; named = λ told. inr (0, tt) }))))
      ]
    ]
    | inr inner ↦ inr (inr (inr inner))
  ]

  module _ (below : Error → Type 0) (old new : StreamReader S R suite read) (to : SeekFrom) where
    -- A seek that is refused with an error that doesn't say that the target is outside. It has failed at the same place.
    pub seek-refused : (e : Error) → below_start to (place_of old) ≡ false
        → KeepsPayload {T = ℕ} (IsPayloadSeekRefusal below) old.source new.source (Err e) → new.key ≡ old.key
        → new.place.failed ≡ true →
        place_of new ≡ place_of old → (IsOutside e → ⊥) → old.opens ≤ new.opens → new.opens ≤ old.opens + 1 →
        (IsTrue (tells_of old) → (ToEnd old to → ⊥) → new.opens ≡ old.opens) → (IsTrue (tells_of old) → HoldsEnd old → new.opens ≡ old.opens) →
        (IsTrue (tells_of old) → IsTrue (payload_of old).ends_well
        → Quietly old new e (IsRefusedTarget suite.seal_of old.key (payload_of old).bytes to (place_of old) e)) →
        (IsTrue (tells_of old) → IsTrue (payload_of old).ends_well → IsTrue (content_of old).ends_well → Quietly old new e ⊥) →
        (IsTrue (tells_of old) → SaysWhySeek below old new to e) → SeeksPayload below old new to (Err e)
    seek-refused e above keeps key failed place other counts most end held bad cause says = record {
      seeks = record {
        same_tells = (stream-kept old new keeps key).0;
        same_steady = (stream-kept old new keeps key).1;
        no_fewer_faults = keeps.inner.same.faults;
        device = keeps.inner.device;
        unspent = tt;
        why = sought-why below old e keeps.inner.why;
        narrows = tt;
        again = λ i. absurd (keeps.inner.patient i);
        missed = λ r. absurd (other r);
        same_content = content-kept old new keeps key;
        arrives = λ _. tt;
        leads = λ _. tt;
        stays = λ _. place;
        interrupted = λ _ i. absurd (keeps.inner.patient i);
        moves = λ _ _. tt;
        kept = λ _ _ _ r. absurd (other r);
        refused = λ _ _ r. absurd (other r);
        cause = λ told well memory quiet. absurd (cause told (inner-well suite.opened old.key (payload_of old) well) well memory quiet);
      };
      target = record {
        patient = keeps.inner.patient;
        first = λ is. absurd (true≢false (sym is ∙ above));
        order = λ _. tt;
        refused = λ _ r. absurd (other r);
        ends = λ _. tt;
        bad = bad;
        says = says;
      };
      leaves = record {
        payload = keeps.payload;
        key = key;
        inner_end = λ _. tt;
        inner_place = λ _ r. absurd (other r);
        inner_rest = λ _ _ r. absurd (other r);
        clears = tt;
        unmoved = λ r. absurd (other r);
        fails = λ _. failed;
        judges = λ _. tt;
      };
      opens = record {
        counts = counts;
        most = most;
        end = end;
        held = held;
      };
      chunks = record {
        keeps = λ _. tt;
        unmoved_chunks = λ r. absurd (other r);
        same_last = λ _. tt;
        keeps_last = tt;
        holds_end = λ _. tt;
        uses_end = λ _. tt;
        none = λ _ _. tt;
        unheld = λ _ _. tt;
        finds = λ _. tt;
      };
    }

    -- A refusal that is handed on is that of the call that met it.
    pub seek-handed : (result : Result ℕ Error) (e : Error) → IsErrAnd result (λ x. x ≡ e) → SeeksPayload below old new to (Err e)
        → SeeksPayload below old new to result
    seek-handed (Err x) e is seek = subst (λ x. SeeksPayload below old new to (Err x)) (sym is) seek
    seek-handed (Ok n) e is seek = absurd is

    -- A seek that leads to a place is that of any seeker.
    pub seeks-done : (n : ℕ) → KeepsPayload (IsPayloadSeekRefusal below) old.source new.source (Ok n) → new.key ≡ old.key
        → new.place.failed ≡ false →
        read.faults new.source.inner < most_faults → (IsTrue (tells_of old) → place_of new ≡ n) → (IsTrue (tells_of old)
        → MayLead to (place_of old) n) →
        (IsTrue (tells_of old) → IsTrue (steady_of old) →
        (sought to (place_of old) (length (content_of old).bytes) ≡ Ok n) × (plain_rest_of new ≡ from_place n (content_of old))) →
        Seeks tells_of steady_of content_of place_of plain_rest_of faults_of refuses_of (OrTooLong below) old new to (Ok n)
    seeks-done n keeps key good unspent arrives leads moves = record {
      same_tells = (stream-kept old new keeps key).0;
      same_steady = (stream-kept old new keeps key).1;
      no_fewer_faults = keeps.inner.same.faults;
      device = tt;
      unspent = unspent;
      why = tt;
      narrows = stream_narrows new.place.failed old new (λ is. absurd (true≢false (sym is ∙ good))) keeps key;
      again = tt;
      missed = tt;
      same_content = content-kept old new keeps key;
      arrives = arrives;
      leads = leads;
      stays = λ _. tt;
      interrupted = λ _. tt;
      moves = moves;
      kept = λ _ _ _. tt;
      refused = λ _ _. tt;
      cause = λ _ _. tt;
    }

    -- It stands in the plaintext then, if that ends well.
    pub arrived : (n : ℕ) → IsCipher suite.seal_of suite.opened → ((r : R) → IsTrue (read.tells r) → AreBytes (read.content r).bytes) →
        KeepsPayload (IsPayloadSeekRefusal below) old.source new.source (Ok n) → new.key ≡ old.key → new.place.failed ≡ false
        → IsTrue (tells_of old) →
        place_of new ≡ n → in_length (plain_len (length (payload_of old).bytes)) to (place_of old) ≡ Ok n →
        (new.place.held ≡ false → (read.rest new.source.inner ≡ from_place new.source.taken (payload_of new))
        × (65552 * new.place.number < length (payload_of new).bytes))
        → IsTrue (steady_of old) →
        (sought to (place_of old) (length (content_of old).bytes) ≡ Ok n) × (plain_rest_of new ≡ from_place n (content_of old))
    arrived n cipher are keeps key good told arrives ok shut steady =
        let well = and-right (tells_of old) _ steady in
        let after = told-later read old.source.inner new.source.inner keeps.inner.same told in
        let content = content-kept old new keeps key told in
        let bytes = All-drop (λ x. x < 2 ^ 8) (read.place old.source.inner - old.source.taken) (read.content old.source.inner).bytes (are
        old.source.inner (and-left _ _ told)) in
        let new_bytes = All-drop (λ x. x < 2 ^ 8) (read.place new.source.inner - new.source.taken) (read.content new.source.inner).bytes
        (are new.source.inner (and-left _ _ after)) in
        let sound = now-sound suite.opened new.key
        (shorter suite.seal_of suite.opened cipher new.key new.key_bytes) new.place new.cache new.source new_bytes
        (ap (λ d. d.ends_well) content ∙ well) good (λ held. (new.chunk held).in_chunk) (new.sound after) shut in (
          ok-well suite.opened old.key (shorter suite.seal_of suite.opened cipher old.key old.key_bytes) (payload_of old) bytes well to
              (place_of old) n ok,
          sound ∙ ap (λ d. from_place (place_of new) d) content ∙ ap (λ m. from_place m (content_of old)) arrives,
        )

  -- ---- after the inner reader was asked where its end is

  module _ (below : Error → Type 0) (old new : StreamReader S R suite read) (to : SeekFrom) (cipher : IsCipher suite.seal_of suite.opened)
      (are : (r : R) → IsTrue (read.tells r) → AreBytes (read.content r).bytes) (size : ℕ)
      (found : IsTrue (tells_of old) → size ≡ length (payload_of old).bytes)
      (above : below_start to (place_of old) ≡ false) where
    found-there : {r : Result ℕ Error} → IsTrue (tells_of old) → in_length (plain_len size) to (place_of old) ≡ r
        → in_length (plain_len (length (payload_of old).bytes)) to (place_of old) ≡ r
    found-there told is = rw (found told) at is

    payload-bytes : IsTrue (tells_of old) → AreBytes (payload_of old).bytes
    payload-bytes told = All-drop (λ x. x < 2 ^ 8) (read.place old.source.inner - old.source.taken) (read.content old.source.inner).bytes
        (are old.source.inner (and-left _ _ told))

    module _ {T U : Type 0} {x : T} {y : U} (mid : StreamReader S R suite read) (stays : Stays old mid)
        (look : KeepsPayload (IsPayloadSeekRefusal below) old.source mid.source (Ok x))
        (done : KeepsPayload (IsPayloadSeekRefusal below) mid.source new.source (Ok y)) where
      later : IsTrue (tells_of old) → IsTrue (tells_of mid)
      later = told-later read old.source.inner mid.source.inner look.inner.same

      keeps-both : {V : Type 0} {z : V} → KeepsPayload (IsPayloadSeekRefusal below) old.source new.source (Ok z)
      keeps-both = payload-later old.source mid.source _ new.source look (payload-done mid.source new.source done)

      -- the target is before the end
      pub seek-entered : (target len : ℕ) → FindsTarget to (place_of old) size target len → (target ≡ len → ⊥) → new.key ≡ mid.key
          → new.opens ≡ mid.opens →
          Enters mid new size target old.place.failed → SeeksPayload below old new to (Ok target)
      seek-entered target len find apart same_key same_opens enters =
          let before_end : IsTrue (tells_of old) → ToEnd old to → ⊥ = λ told end.
          not-end to (place_of old) (length (payload_of old).bytes) target len (rw (found told) at find.plain) above
          (found-there told find.ok) apart end in
          let key = same_key ∙ stays.key in
          let opens = same_opens ∙ stays.opens in
          let has = λ (b : ℕ) (one : HasOne old.cache b). subst (λ k. HasOne k b) (sym stays.cache) one in
          record {
            seeks = seeks-done below old new to target keeps-both key enters.good enters.unspent (λ _. enters.arrives)
                (λ _. in_length-leads (plain_len size) to (place_of old) _ find.ok)
                (λ told. arrived below old new to target cipher are keeps-both key enters.good told enters.arrives (found-there told find.ok)
                (λ shut. (
                  enters.rest (later told) ∙ ap (from_place new.source.taken) (sym (done.payload (later told))),
                  omega (arith, enters.more shut, found told, ap (λ p. length p.bytes) ((keeps-both {z = target}).payload told)),
                )));
            target = record {
              patient = tt;
              first = λ is. absurd (true≢false (sym is ∙ above));
              order = λ told. rw above (found-there told find.ok);
              refused = λ _. tt;
              ends = λ told end. absurd (before_end told end);
              bad = λ _ _. tt;
              says = λ _. tt;
            };
            leaves = record {
              payload = (keeps-both {z = target}).payload;
              key = key;
              inner_end = λ told. ap (λ s. s.ends_well) (enters.rest (later told)) ∙ ap (λ p. p.ends_well) (look.payload told);
              inner_place = λ _. tt;
              inner_rest = λ _ _. tt;
              clears = λ failed. true≢false (sym failed ∙ enters.good);
              unmoved = tt;
              fails = tt;
              judges = λ told other. enters.before;
            };
            opens = record {
              counts = omega (arith, opens);
              most = omega (arith, opens);
              end = λ _ _. opens;
              held = λ _ _. opens;
            };
            chunks = record {
              keeps = λ told other b was. (enters.good, enters.has was.0 b (has b was.1));
              unmoved_chunks = tt;
              same_last = λ told other b is.
                  let used = used-good old.place.failed (last_used old.cache) b is in
                  rw enters.good (enters.same_last used.0 ∙ ap last_used stays.cache ∙ used.1);
              keeps_last = λ b is.
                  let used = used-good old.place.failed (last_used old.cache) b is in
                  (enters.good, enters.has used.0 b (has b (used-there old.cache b used.1)));
              holds_end = λ told end. absurd (before_end told end);
              uses_end = λ told end. absurd (before_end told end);
              none = λ told failed b was. absurd ((enters.none failed).1 b was.1);
              unheld = λ told failed other holding.
                  let none = enters.none failed in
                  elim holding.1 [
                    | inl held ↦ absurd (true≢false (sym held.0 ∙ none.0))
                    | inr next ↦ absurd (none.1 _ (inr next.1))
                  ];
              finds = λ told other was. (enters.good, inl (enters.finds (later told) was.0 (has (target / 65536) was.1)));
            };
          }

      -- the target is the end
      pub seek-ended : (target len : ℕ) → FindsTarget to (place_of old) size target len → target ≡ len → new.key ≡ mid.key → mid.opens ≤ new.opens
          → new.opens ≤ mid.opens + 1 →
          (old.place.failed ≡ false → HasEnd mid (final_chunk size) → new.opens ≡ mid.opens) → EntersEnd mid new (final_chunk size) len
          → KeepsAtEnd mid new (final_chunk size) old.place.failed →
          SeeksPayload below old new to (Ok target)
      seek-ended target len find is_len same_key counts most none enters chunks =
          let payload = payload_of old in
          let at_end : IsTrue (tells_of old) → ToEnd old to = λ told.
          is-end to (place_of old) (length payload.bytes) target len (rw (found told) at find.plain) above (found-there told find.ok) is_len in
          let key = same_key ∙ stays.key in
          let arrives = λ (told : IsTrue (tells_of old)). enters.arrives (later told) ∙ sym is_len in
          let had = λ (told : IsTrue (tells_of old)) (was : HoldsEnd old). end-looked old mid stays.held stays.cache stays.number size
          (found told) was.1 in
          record {
            seeks = seeks-done below old new to target keeps-both key enters.good.0 (new.unspent enters.good.0 enters.good.1) arrives
                (λ _. in_length-leads (plain_len size) to (place_of old) _ find.ok)
                (λ told. arrived below old new to target cipher are keeps-both key enters.good.0 told (arrives told) (found-there told find.ok)
                (λ shut. absurd (true≢false (sym enters.good.1 ∙ shut))));
            target = record {
              patient = tt;
              first = λ is. absurd (true≢false (sym is ∙ above));
              order = λ told. rw above (found-there told find.ok);
              refused = λ _. tt;
              ends = λ told end.
                  let held = (new.sound (told-later read old.source.inner new.source.inner (keeps-both {z = target}).inner.same told)).is_held
                  enters.good.1 in
                  let opens = subst (λ p. suite.opened new.key (chunk_nonce new.place.number new.cache.first.last) (text_at new.place.number p)
                  ≡ Some new.cache.first.piece.items) ((keeps-both {z = target}).payload told) held.opens in
                  ends_last suite.seal_of suite.opened cipher old.key old.key_bytes payload.bytes
                  (payload-bytes told) new.place.number new.cache.first.piece.items (enters.good.3 ∙ ap final_chunk (found told))
                  (subst (λ k. suite.opened k (chunk_nonce new.place.number true) (text_at new.place.number payload) ≡ Some
                  new.cache.first.piece.items) key
                  (subst (λ b. suite.opened new.key (chunk_nonce new.place.number b) (text_at new.place.number payload) ≡ Some
                  new.cache.first.piece.items)
                  enters.good.2 opens));
              bad = λ _ _. tt;
              says = λ _. tt;
            };
            leaves = record {
              payload = (keeps-both {z = target}).payload;
              key = key;
              inner_end = λ told. enters.inner_end (later told) ∙ ap (λ p. p.ends_well) (look.payload told);
              inner_place = λ _. tt;
              inner_rest = λ _ _. tt;
              clears = λ failed. true≢false (sym failed ∙ enters.good.0);
              unmoved = tt;
              fails = tt;
              judges = λ told other. absurd (other (at_end told));
            };
            opens = record {
              counts = omega (arith, counts, stays.opens);
              most = omega (arith, most, stays.opens);
              end = λ told other. absurd (other (at_end told));
              held = λ told was. none was.0 (had told was) ∙ stays.opens;
            };
            chunks = record {
              keeps = λ told was b has.
                  let held = was (at_end told) in
                  (enters.good.0, chunks.has held.0 (had told held) b (subst (λ k. HasOne k b) (sym stays.cache) has.1));
              unmoved_chunks = tt;
              same_last = λ told other. absurd (other (at_end told));
              keeps_last = λ b is.
                  let used = used-good old.place.failed (last_used old.cache) b is in
                  (enters.good.0, chunks.keeps_last used.0 b (ap last_used stays.cache ∙ used.1));
              holds_end = λ told end. (
                enters.good.0,
                inl (
                  enters.good.1,
                  enters.good.2,
                  enters.good.3
                      ∙ ap final_chunk (found told ∙ sym (ap (λ p. length p.bytes) ((keeps-both {z = target}).payload told))),
                ),
              );
              uses_end = λ told end apart.
                  let whole = (plain_len_says size len find.plain).whole in
                  let judged = true_from_ne_false new.cache.judged
                  (λ none. apart (omega (
                    arith,
                    ((new.chunk enters.good.1).unjudged none).end,
                    enters.arrives
                        (later told),
                    enters.good.3,
                    whole,
                    found told,
                  ))) in
                  rw enters.good.0 (chunks.uses judged ∙ ap (λ n. Some (final_chunk n)) (found told));
              none = λ told failed b was. (at_end told, chunks.alone failed b was.1 ∙ ap final_chunk (found told));
              unheld = λ told failed other. absurd (other (at_end told));
              finds = λ told other. absurd (other (at_end told));
            };
          }

    module _ {T U : Type 0} {x : T} {y : U} (mid : Source R read) (stays : Stays old new)
        (look : KeepsPayload (IsPayloadSeekRefusal below) old.source mid (Ok x))
        (done : KeepsPayload (IsPayloadSeekRefusal below) mid new.source (Ok y)) where
      put-back : {V : Type 0} {z : V} → KeepsPayload (IsPayloadSeekRefusal below) old.source new.source (Ok z)
      put-back = payload-later old.source mid _ new.source look (payload-done mid new.source done)

      -- the target is outside, and the inner reader was put back
      pub seek-missed : (e : Error) → RefusesTarget to (place_of old) size e → IsOutside e → new.place.failed ≡ old.place.failed →
          ((r : R) → IsTrue (read.tells r) → IsTrue (read.steady r) → StandsIn (read.content r) (read.place r) (read.rest r)) →
          (IsTrue (tells_from mid) → read.rest new.source.inner ≡ from_place old.source.taken (payload_from mid))
          → (IsTrue (tells_of old) → read.place new.source.inner ≡ read.place old.source.inner) →
          SeeksPayload below old new to (Err e)
      seek-missed e find refusal same_failed stands rest inner_place =
          let payload = payload_of old in
          let number = stays.number in
          let at = stays.at in
          let held = stays.held in
          let cache = stays.cache in
          let key = stays.key in
          let place : place_of new ≡ place_of old = omega (arith, number, at) in
          let opens = stays.opens in
          let back = λ (told : IsTrue (tells_of old)). rest (told-later read old.source.inner mid.inner look.inner.same told)
          ∙ ap (from_place old.source.taken) (look.payload told) in
          record {
            seeks = record {
              same_tells = (stream-kept old new (put-back {V = ℕ} {z = 0}) key).0;
              same_steady = (stream-kept old new (put-back {V = ℕ} {z = 0}) key).1;
              no_fewer_faults = (put-back {V = ℕ} {z = 0}).inner.same.faults;
              device = λ d. absurd (find.not_device d);
              unspent = tt;
              why = sought-why below old e (inl (own-refusal below e find.named));
              narrows = tt;
              again = λ i. absurd (not-both e refusal i);
              missed = λ _. stream_narrows new.place.failed old new (λ is. sym same_failed ∙ is) (put-back {V = ℕ} {z = 0}) key;
              same_content = content-kept old new (put-back {V = ℕ} {z = 0}) key;
              arrives = λ _. tt;
              leads = λ _. tt;
              stays = λ _. place;
              interrupted = λ _ i. absurd (not-both e refusal i);
              moves = λ _ _. tt;
              kept = λ told steady sound r.
                  let t = and-left (read.tells old.source.inner) (read.steady old.source.inner) told in
                  let s = and-right (read.tells old.source.inner) (read.steady old.source.inner) told in
                  let kept = rest-kept suite.opened old.key old.place old.cache (place_of old) old.source.taken
                  (content_of old) payload (read.rest old.source.inner) (read.rest new.source.inner) sound (and-right (tells_of old) _ steady)
                  (taken-rest (read.content old.source.inner) (read.rest old.source.inner) (read.place old.source.inner) old.source.taken
                  (stands old.source.inner t s) (old.source.fits told)) (back told) in
                  ap (λ k. rest_of suite.opened k new.place new.cache (read.rest new.source.inner)) key
                  ∙ ap (λ k. rest_of suite.opened old.key new.place k (read.rest new.source.inner)) cache
                  ∙ rest-like suite.opened old.key old.place new.place old.cache (read.rest new.source.inner) number at held same_failed ∙ kept;
              refused = λ told well r.
                  err-well suite.opened old.key (shorter suite.seal_of suite.opened cipher old.key old.key_bytes) payload
                  (payload-bytes told) well to (place_of old) e (found-there told find.err);
              cause = λ _ _ _ _. refusal;
            };
            target = record {
              patient = λ i. not-both e refusal i;
              first = λ is. absurd (true≢false (sym is ∙ above));
              order = λ _. tt;
              refused = λ told _. rw above (found-there told find.err);
              ends = λ _. tt;
              bad = λ told well memory quiet. inl (rw above (found-there told find.err));
              says = λ told. inl (inl (rw above (found-there told find.err)));
            };
            leaves = record {
              payload = (put-back {V = ℕ} {z = 0}).payload;
              key = key;
              inner_end = λ _. tt;
              inner_place = λ told _. inner_place told;
              inner_rest = λ told asked _.
                  let from = read.place old.source.inner - old.source.taken in
                  let there : from + old.source.taken ≡ read.place old.source.inner = omega (arith, old.source.fits told) in
                  back told ∙ sym (payload-place (read.content old.source.inner) from (read.place old.source.inner) old.source.taken refl
                  old.source.taken)
                  ∙ ap (λ n. from_place n (read.content old.source.inner)) there;
              clears = tt;
              unmoved = λ _. (
                λ is. sym same_failed ∙ is,
                λ is. same_failed
                    ∙ is,
                place,
                λ is. rw (number, at, held, cache, same_failed) is,
                λ is. rw (held, cache, at) is,
                rw (held, cache) refl,
                opens,
              );
              fails = λ other. absurd (other refusal);
              judges = λ _. tt;
            };
            opens = record {
              counts = omega (arith, opens);
              most = omega (arith, opens);
              end = λ _ _. opens;
              held = λ _ _. opens;
            };
            chunks = record {
              keeps = λ _. tt;
              unmoved_chunks = λ _. (rw (same_failed, cache) refl, λ b has. (same_failed ∙ has.0, subst (λ k. HasOne k b) (sym cache) has.1));
              same_last = λ _. tt;
              keeps_last = tt;
              holds_end = λ _. tt;
              uses_end = λ _. tt;
              none = λ _ _. tt;
              unheld = λ _ _. tt;
              finds = λ _. tt;
            };
          }
