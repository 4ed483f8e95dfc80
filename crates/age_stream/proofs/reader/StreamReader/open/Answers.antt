use Rattle.std.proofs.Common.{◌≡◌, ◌∙◌, sym, IsTrue, refl, subst, arith, ◌<◌, ◌≤◌, ◌⊎◌, length, take, Err, inl, inr, true, false}
use Rattle.std.proofs.lemmas.Bool.{true≢false}
use Rattle.age_error.specs.ErrorLemmas.{of_error}
use Rattle.age_error.specs.declared.io.Error.TheVariants.{OutOfMemory, Truncated}
use Rattle.age_io.specs.Stretch.{Stretch}
use Rattle.age_io.specs.Reading.{EndsEarly}
use Rattle.age_v1.specs.DeliveredPayload.{chunk_of}
use Rattle.age_v1.specs.PayloadRefusals.{StopsAt}
use Rattle.age_stream.specs.Reader.{wanted_of}
use Rattle.age_stream.specs.Reading.{payload_from, tells_from}
use Rattle.age_stream.specs.PrivateCache.{IsKept, IsText}
use Rattle.age_stream.specs.ReadingLemmas.{and-left, and-right}
use Rattle.age_stream.proofs.Answered.{good-opened}
use Rattle.age_io.proofs.Exiting.{OnOk-refused}
use Rattle.age_stream.proofs.Asking.{reader-asked}
use Rattle.age_stream.proofs.Holding.{open-early, open-refused, rest-opened, clean-opened, spare-opened}
use Rattle.age_stream.proofs.Opening.{inside-text, kept-brought, opened-text, sound-held, sound-unopened, text-refused}
use Rattle.age_stream.proofs.Stepping.{has-next, next-held, opens-next}
use Rattle.age_stream.proofs.Keeping.{payload-done, payload-ended, payload-handed, payload-more}
use Rattle.age_stream.proofs.Named.{chunk-named, inner-named, truncated-named}
use Rattle.age_stream.proofs.reader.StreamReader.open.Goals as goal

-- no text came
pub returns-in_err-count : goal.returns-in_err-count
returns-in_err-count g c =
    let self = c.args.self.now in
    let source = self.source in
    let mid = c.take.new.self in
    let read = g.R.Read in
    let taken = c.in_err-count.ensures in
    let e = c.in_err-count.field-0.0 in
    let refused = c.from_residual.ensures.0 in
    let is = c.from_residual.ensures.1 in
    record {
      keeps = payload-handed source mid c.from_residual.result e is (payload-more source mid (Err e) (λ e none. absurd none) taken.keeps);
      names = of_error _ _ _ is (inner-named read source.inner e taken.keeps.inner.why);
      says = of_error _ _ _ is (inl taken.refused);
      stays = record { key = refl; sought = refl; place = refl };
      holds = OnOk-refused _ _ refused;
      refused = of_error _ _ _ is record {
        fails = refl;
        cause = λ told memory quiet.
            open-early g.S.Suite.opened self.key self.place self.cache (read.rest source.inner) c.requires.good c.requires.closed
            (taken.cause (and-left _ _ told) memory quiet);
        refused = λ told memory quiet.
            let wanted : 65552 ≡ wanted_of self = rw c.requires.closed refl in
            record {
              number = self.place.number;
              from = omega arith;
              to = omega (arith, ((self.sound told).before c.requires.good c.requires.closed).under);
              why = inl (subst (λ n. EndsEarly n (read.rest source.inner)) wanted (taken.cause (and-left _ _ told) memory quiet));
            };
      };
      opens = opens-next {T = Unit} self _ _ c.requires.closed refl (omega arith) (omega arith) (λ _. refl) (OnOk-refused _ _ refused);
    }

pub invariant_of-self-in-Break-1 : goal.invariant_of-self-in-Break-1
invariant_of-self-in-Break-1 g c = reader-asked c.args.self.now _ c.take.new.self refl refl refl refl c.in_err-count.ensures.keeps

-- the text that came is refused
pub returns-in_err-bring : goal.returns-in_err-bring
returns-in_err-bring g c =
    let self = c.args.self.now in
    let source = self.source in
    let number = self.place.number in
    let mid = c.take.new.self in
    let read = g.R.Read in
    let suite = g.S.Suite in
    let taken = c.in_ok-count.ensures in
    let bring = c.in_err-bring.ensures in
    let e = c.in_err-bring.field-0.0 in
    let text = take c.in_ok-count.count mid.room.items in
    let judged : (e ≡ OutOfMemory) ⊎ (chunk_of suite.opened self.key number text ≡ Err e) = rw c.deref.ensures.value at bring.refused in
    let refuses = text-refused self mid g.met.S.Suite.cipher g.met.R.Read.are_bytes g.met.R.Read.stands c.requires.good c.requires.closed
    c.in_ok-count.count taken.takes taken.keeps e in
    let refused = c.from_residual-in_err-bring.ensures.0 in
    let is = c.from_residual-in_err-bring.ensures.1 in
    record {
      keeps =
          let k = payload-ended source mid {U = Unit {0}} e (payload-more source mid _ (λ e none. absurd none) taken.keeps) bring.named.device
          (record {
            is = bring.named.named;
            named = λ told. elim judged [
              | inl want ↦ inr (0, subst (StopsAt suite.seal_of self.key (payload_from source).bytes 0) (sym want) tt)
              | inr bad ↦ inr (number, refuses told bad)
            ];
          }) in
          payload-handed source _ {T = Unit {0}} c.from_residual-in_err-bring.result e is (record { inner = k.inner; payload = k.payload });
      names = of_error _ _ _ is (inl (chunk-named e bring.named));
      says = of_error _ _ _ is (inr (record {
        text = text;
        came = taken.takes.turns;
        number = number;
        from = omega arith;
        to = omega (arith, self.place.offset);
        why = elim judged [ inl want ↦ inl want | inr bad ↦ inr (inl bad) ];
      }));
      stays = record { key = refl; sought = refl; place = refl };
      holds = OnOk-refused _ _ refused;
      refused = of_error _ _ _ is record {
        fails = refl;
        cause = λ told memory quiet. elim judged [
          | inl want ↦ absurd (memory want)
          | inr bad ↦ open-refused suite.opened self.key self.place self.cache (read.rest source.inner) (read.rest mid.inner) text e c.requires.good
              c.requires.closed (taken.takes.took (and-left _ _ told)) bad
        ];
        refused = λ told memory quiet. record {
          number = number;
          from = omega arith;
          to = omega (arith, ((self.sound told).before c.requires.good c.requires.closed).under);
          why = elim judged [ inl want ↦ absurd (memory want) | inr bad ↦ inr (bring.named.itself, refuses told bad) ];
        };
      };
      opens = opens-next {T = Unit} self _ _ c.requires.closed refl (bring.opens.counts self.count_fits) bring.opens.most bring.found
          (OnOk-refused _ _ refused);
    }

-- the text that came is opened, and has no byte at the place: it has one, since the payload is as long as a seek found
pub returns-then-self-len : goal.returns-then-self-len
returns-then-self-len g c =
    let self = c.args.self.now in
    let source = self.source in
    let mid = c.take.new.self in
    let taken = c.in_ok-count.ensures in
    let past : length c.bring.new.self.first.piece.items < self.place.at =
    omega (arith, c.if-self-len.true, c.len.ensures, c.bring.new.self.first.piece.ok.0) in
    let inside = inside-text self mid g.met.S.Suite.cipher g.met.R.Read.are_bytes g.met.R.Read.stands c.requires.good c.requires.closed
    c.in_ok-count.count
    taken.takes taken.keeps c.bring.new.self (λ payload kept read. c.bring.ensures.kept payload kept (rw c.deref.ensures.value read))
    c.in_ok-bring.ensures.brings.first in
    let never : IsTrue (tells_from source) → ⊥ = λ told. omega (arith, past, inside told (omega (arith, past))) in
    record {
      names = inl truncated-named;
      says = inr (record {
        text = take c.in_ok-count.count mid.room.items;
        came = taken.takes.turns;
        number = self.place.number;
        from = omega arith;
        to = omega (arith, self.place.offset);
        why = inr (inr (refl, omega (arith, past)));
      });
      keeps =
          let k = payload-ended source mid {U = Unit {0}} Truncated (payload-more source mid _ (λ e none. absurd none) taken.keeps) (λ device. device)
          (record { is = tt; named = λ told. absurd (never told) }) in
          record { inner = k.inner; payload = k.payload };
      stays = record { key = refl; sought = refl; place = refl };
      holds = tt;
      refused = record {
        fails = refl;
        cause = λ told memory quiet. absurd (never told);
        refused = λ told memory quiet. absurd (never told);
      };
      opens = opens-next {T = Unit} self _ _ c.requires.closed refl (c.bring.ensures.opens.counts self.count_fits) c.bring.ensures.opens.most
          c.bring.ensures.found tt;
    }

-- the text that came is opened
pub returns : goal.returns
returns g c =
    let self = c.args.self.now in
    let source = self.source in
    let number = self.place.number in
    let mid = c.take.new.self in
    let read = g.R.Read in
    let suite = g.S.Suite in
    let taken = c.in_ok-count.ensures in
    let brings = c.in_ok-bring.ensures.brings in
    let cache = c.bring.new.self in
    let text = take c.in_ok-count.count mid.room.items in
    let is = opened-text self mid g.met.S.Suite.cipher g.met.R.Read.are_bytes g.met.R.Read.stands c.requires.good c.requires.closed
    c.in_ok-count.count
    taken.takes taken.keeps cache (λ payload kept read. c.bring.ensures.kept payload kept (rw c.deref.ensures.value read)) brings.first in
    let inside = inside-text self mid g.met.S.Suite.cipher g.met.R.Read.are_bytes g.met.R.Read.stands c.requires.good c.requires.closed
    c.in_ok-count.count
    taken.takes taken.keeps cache (λ payload kept read. c.bring.ensures.kept payload kept (rw c.deref.ensures.value read)) brings.first in
    let within : self.place.at ≤ length cache.first.piece.items = omega (arith, c.if-self-len.false, c.len.ensures, cache.first.piece.ok.0) in
    record {
      names = tt;
      says = tt;
      keeps = let k = payload-done source mid {y = tt} (payload-more source mid _ (λ e none. absurd none) taken.keeps) in
          record { inner = k.inner; payload = k.payload };
      stays = record { key = refl; sought = refl; place = refl };
      holds = record {
        good = (refl, refl);
        rest = λ told. rest-opened suite.opened self.key self.place _ self.cache _ (read.rest source.inner) (read.rest mid.inner) text c.requires.good
            c.requires.closed (record { number = refl; at = refl; held = refl; sought = refl; good = refl }) (taken.takes.took (and-left _ _ told))
            (is told).short (is told).ok within;
        end = λ told given. clean-opened suite.opened self.key self.place (record {
          number = number;
          at = self.place.at;
          held = true;
          failed = false;
          sought = self.place.sought;
          offset = self.place.offset;
          limit = self.place.limit;
        }) self.cache cache (read.rest source.inner) (read.rest mid.inner) text c.requires.good
            c.requires.closed (record { number = refl; at = refl; held = refl; sought = refl; good = refl }) (taken.takes.took (and-left _ _ told))
            (is told).short (is told).ok (is told).longer (inside told) given;
        ended = λ told given.
            good-opened suite.seal_of suite.opened g.met.S.Suite.cipher self.key self.key_bytes
            (read.content source.inner) (read.rest source.inner) (read.rest mid.inner)
            (read.place source.inner) source.taken number self.place.at cache.first.last text cache.first.piece.items
            (g.met.R.Read.are_bytes source.inner (and-left _ _ told)) (g.met.R.Read.stands source.inner (and-left _ _ told) (and-right _ _ told))
            (source.fits told) ((self.sound told).before c.requires.good c.requires.closed).stood (taken.takes.took (and-left _ _ told))
            (is told).short (is told).ok (is told).longer (inside told) given;
        inner_end = λ told. (taken.takes.took (and-left _ _ told)).came.end;
        opened = λ none. brings.opened self.count_fits (λ has. none (next-held self c.requires.good c.requires.closed has));
        keeps_last = brings.keeps_last;
        has = λ here. brings.keeps (has-next self c.requires.closed here);
      };
      refused = tt;
      opens = opens-next {T = Unit} self _ _ c.requires.closed refl (c.bring.ensures.opens.counts self.count_fits) c.bring.ensures.opens.most
          c.bring.ensures.found
          (spare-opened true cache.first.last self.opens c.bring.new.opens refl brings.middle c.bring.ensures.opens.most);
    }

pub invariant_of-self-in-Break-branch-2 : goal.invariant_of-self-in-Break-branch-2
invariant_of-self-in-Break-branch-2 g c =
    let self = c.args.self.now in
    let mid = c.take.new.self in
    let taken = c.in_ok-count.ensures in
    let keeps = λ (payload : Stretch) (kept : IsKept g.S.Suite.opened self.key payload self.cache) (text : IsText payload self.place.number (take
    c.in_ok-count.count mid.room.items)).
    c.bring.ensures.kept payload kept (rw c.deref.ensures.value text) in
    record {
      key_bytes = self.key_bytes;
      chunk = λ held. absurd (true≢false (sym held ∙ c.requires.closed));
      count_fits = c.bring.ensures.opens.fits self.count_fits;
      unspent = λ good. absurd (true≢false good);
      kept = λ told.
          let k = kept-brought self mid g.met.S.Suite.cipher g.met.R.Read.are_bytes g.met.R.Read.stands c.requires.good c.requires.closed
          c.in_ok-count.count
          taken.takes taken.keeps c.bring.new.self keeps told in
          record { first = k.first; other = k.other };
      sound = sound-unopened self mid g.met.S.Suite.cipher g.met.R.Read.are_bytes g.met.R.Read.stands c.requires.good c.requires.closed
          c.in_ok-count.count
          taken.takes taken.keeps c.bring.new.self keeps _ _ _ refl c.requires.closed refl refl refl;
    }

pub invariant_of-self-then-self-len : goal.invariant_of-self-then-self-len
invariant_of-self-then-self-len g c =
    let self = c.args.self.now in
    let mid = c.take.new.self in
    let taken = c.in_ok-count.ensures in
    let keeps = λ (payload : Stretch) (kept : IsKept g.S.Suite.opened self.key payload self.cache) (text : IsText payload self.place.number (take
    c.in_ok-count.count mid.room.items)).
    c.bring.ensures.kept payload kept (rw c.deref.ensures.value text) in
    record {
      key_bytes = self.key_bytes;
      chunk = λ held. absurd (true≢false (sym held ∙ c.requires.closed));
      count_fits = c.bring.ensures.opens.fits self.count_fits;
      unspent = λ good. absurd (true≢false good);
      kept = λ told.
          let k = kept-brought self mid g.met.S.Suite.cipher g.met.R.Read.are_bytes g.met.R.Read.stands c.requires.good c.requires.closed
          c.in_ok-count.count
          taken.takes taken.keeps c.bring.new.self keeps told in
          record { first = k.first; other = k.other };
      sound = sound-unopened self mid g.met.S.Suite.cipher g.met.R.Read.are_bytes g.met.R.Read.stands c.requires.good c.requires.closed
          c.in_ok-count.count
          taken.takes taken.keeps c.bring.new.self keeps _ _ _ refl c.requires.closed refl refl refl;
    }

pub invariant_of-self-6 : goal.invariant_of-self-6
invariant_of-self-6 g c =
    let self = c.args.self.now in
    let mid = c.take.new.self in
    let taken = c.in_ok-count.ensures in
    let cache = c.bring.new.self in
    let first = c.in_ok-bring.ensures.brings.first in
    let whole = cache.first.whole in
    let within : self.place.at ≤ length cache.first.piece.items = omega (arith, c.if-self-len.false, c.len.ensures, cache.first.piece.ok.0) in
    let keeps = λ (payload : Stretch) (kept : IsKept g.S.Suite.opened self.key payload self.cache) (text : IsText payload self.place.number (take
    c.in_ok-count.count mid.room.items)).
    c.bring.ensures.kept payload kept (rw c.deref.ensures.value text) in
    record {
      key_bytes = self.key_bytes;
      chunk = λ held. record {
        in_chunk = within;
        small = whole.small;
        more = omega (arith, whole.limit, first.1);
        full = whole.full;
        first = first.1;
        unjudged = λ none. absurd (true≢false (sym first.0 ∙ none));
      };
      count_fits = c.bring.ensures.opens.fits self.count_fits;
      unspent = λ _ _. taken.takes.unspent;
      kept = λ told.
          let k = kept-brought self mid g.met.S.Suite.cipher g.met.R.Read.are_bytes g.met.R.Read.stands c.requires.good c.requires.closed
          c.in_ok-count.count
          taken.takes taken.keeps cache keeps told in
          record { first = k.first; other = k.other };
      sound = sound-held self mid g.met.S.Suite.cipher g.met.R.Read.are_bytes g.met.R.Read.stands c.requires.good c.requires.closed
          c.in_ok-count.count
          taken.takes taken.keeps cache keeps first _ _ _ within (record { number = refl; at = refl; held = refl; sought = refl; good = refl })
          refl refl refl refl;
    }
