use Rattle.std.proofs.Common.{◌≡◌, ◌≢◌, ◌≤◌, ◌+◌, ◌∙◌, inl, inr, arith, length, take, sym, ap, IsTrue, refl, length-take-le, Some, None, true, false, subst, Ok, Err}
use Rattle.std.proofs.lemmas.Bool.{cases_lt, lt-ltb, ltb-true, true≢false}
use Rattle.age_io.specs.Cursor.{IsOutside}
use Rattle.age_stream.specs.Reader.{payload_of}
use Rattle.age_error.specs.declared.io.Error.TheVariants.{BadEnd, OutOfMemory}
use Rattle.age_stream.specs.PrivateSteps.{IsNoLast}
use Rattle.age_v1.specs.Payload.{chunk_nonce}
use Rattle.age_v1.specs.DeliveredPayload.{IsLastChunk}
use Rattle.age_stream.specs.PrivateCache.{IsKept}
use Rattle.age_stream.specs.Reading.{payload_from, tells_from}
use Rattle.age_stream.specs.ReadingLemmas.{and-left}
use Rattle.age_stream.proofs.Keeping.{payload-done, payload-ended, payload-lost, payload-more, told-before}
use Rattle.age_stream.proofs.Last.{IsLastText, last-held, last-text, last-none}
use Rattle.age_stream.proofs.Moving.{sound-last}
use Rattle.age_stream.proofs.Named.{read-named}
use Rattle.age_stream.proofs.reader.StreamReader.open_last.Goals as goal

pub returns-in-Err : goal.returns-in-Err
returns-in-Err g c =
    let self = c.args.self.now in
    let mid = c.take.new.self in
    let lost = c.lost.ensures in
    let taken = c.in-Err.ensures in
    record {
      keeps = payload-lost self.source mid g.R.Seek.seek_refuses c.in-Err.e c.lost.result lost taken.keeps;
      same = (refl, c.requires.sought);
      enters = tt;
      refused = record {
        fails = c.requires.failed;
        place = refl;
        refusal = lost.refusal;
        cause = λ told well memory quiet.
            let want : c.in-Err.e ≢ OutOfMemory = λ is. memory (lost.same (λ outside. subst IsOutside is outside) ∙ is) in
            let badly : (payload_of self).ends_well ≡ false =
            sym (ap (λ s. s.ends_well) (c.requires.stands told).1) ∙ (taken.cause (and-left _ _ told) want quiet).badly in
            cc;
      };
      says = inr (inr (read-named g.R.Read g.R.Seek.seek_refuses 65552 self.source.inner mid.inner c.in-Err.e c.lost.result lost taken.refused));
      opens = (omega arith, omega arith);
      chunks = tt;
    }

-- the text that came doesn't open as the last
pub returns-in-Ok-None : goal.returns-in-Ok-None
returns-in-Ok-None g c =
    let self = c.args.self.now in
    let mid = c.take.new.self in
    let no_last : IsTrue (tells_from self.source) → IsNoLast self c.args.number BadEnd = λ told.
    let read = g.R.Read in
    let text = take c.in-Ok.count mid.room.items in
    let payload = payload_from self.source in
    let whole = last-text payload (read.rest self.source.inner) (read.rest mid.inner) c.args.number text (c.requires.stands told).1
    (c.requires.last told) (c.in-Ok.ensures.takes.took (and-left _ _ told)) in
    let none : g.S.Suite.opened self.key (chunk_nonce c.args.number true) text ≡ None =
    sym (rw (c.deref.ensures.value, c.in-Ok-None.field-0-is) at c.in-Ok-None.ensures.opened) in
    (refl, last-none g.S.Suite.opened self.key payload (read.rest mid.inner) c.args.number text whole none) in
    record {
      keeps =
          let k = payload-ended self.source mid {U = Unit {0}} BadEnd
          (payload-more self.source mid (Ok c.in-Ok.count) (λ e none. absurd none) c.in-Ok.ensures.keeps) (λ none. none) (inr (inl refl)) in
          record { inner = k.inner; payload = k.payload };
      same = (refl, c.requires.sought);
      enters = tt;
      refused = record { fails = c.requires.failed; place = refl; refusal = λ outside. outside; cause = λ told well memory quiet. no_last told };
      says = inl no_last;
      opens = (omega (arith, c.open_as.ensures.opens), omega (arith, c.open_as.ensures.opens));
      chunks = tt;
    }

pub returns-in-Err-open_as : goal.returns-in-Err-open_as
returns-in-Err-open_as g c =
    let self = c.args.self.now in
    let mid = c.take.new.self in
    record {
      keeps =
          let k = payload-ended self.source mid {U = Unit {0}} OutOfMemory
          (payload-more self.source mid (Ok c.in-Ok.count) (λ e none. absurd none) c.in-Ok.ensures.keeps) (λ none. none) (inr (inr refl)) in
          record { inner = k.inner; payload = k.payload };
      same = (refl, c.requires.sought);
      enters = tt;
      refused = record {
        fails = c.requires.failed;
        place = refl;
        refusal = λ outside. outside;
        cause = λ told well memory. absurd (memory refl);
      };
      says = inr (inl refl);
      opens = (omega (arith, c.open_as.ensures.opens), omega (arith, c.open_as.ensures.opens));
      chunks = tt;
    }

-- it does
pub returns-in-Ok-Some : goal.returns-in-Ok-Some
returns-in-Ok-Some g c =
    let self = c.args.self.now in
    let mid = c.take.new.self in
    let read = g.R.Read in
    let payload = payload_from self.source in
    let taken = c.in-Ok.ensures in
    let reached = c.reached-self.ensures in
    let room = c.make_room.ensures in
    record {
      keeps =
          let k = payload-done self.source mid {y = tt}
          (payload-more self.source mid (Ok c.in-Ok.count) (λ e none. absurd none) taken.keeps) in
          record { inner = k.inner; payload = k.payload };
      same = (refl, reached.good.1);
      enters = record {
        good = (reached.good.0, reached.place.2, c.put.ensures.first.2, reached.place.0);
        arrives = λ told.
            let text = take c.in-Ok.count mid.room.items in
            let whole = last-text payload (read.rest self.source.inner) (read.rest mid.inner) c.args.number text (c.requires.stands told).1
            (c.requires.last told)
            (taken.takes.took (and-left _ _ told)) in
            let longer : length c.in-Ok-Some.piece.items + 16 ≡ length text =
            rw (c.deref.ensures.value, c.in-Ok-Some.field-0-is) at c.in-Ok-Some.ensures.length in
            omega (
              arith,
              whole.long,
              longer,
              c.len-len.ensures,
              c.in-Ok-Some.piece.ok.0,
              (c.requires.last told).enough,
              reached.place.0,
              reached.place.1,
            );
        inner_end = λ told. (taken.takes.took (and-left _ _ told)).came.end ∙ ap (λ s. s.ends_well) (c.requires.stands told).1;
      };
      refused = tt;
      says = tt;
      opens = (omega (arith, c.open_as.ensures.opens), omega (arith, c.open_as.ensures.opens));
      chunks = record {
        used = (c.put.ensures.first.4, c.put.ensures.first.0);
        had = λ b has. elim (c.put.ensures.had b has) [ inl same ↦ inl same | inr other ↦ inr (room.had b other) ];
        keeps_last = λ b was. c.put.ensures.keeps_last room.alone.1 b (room.same_last ∙ was);
      };
    }

pub invariant_of-self-in-Ok-Some : goal.invariant_of-self-in-Ok-Some
invariant_of-self-in-Ok-Some g c =
    let self = c.args.self.now in
    let source = self.source in
    let mid = c.take.new.self in
    let read = g.R.Read in
    let suite = g.S.Suite in
    let taken = c.in-Ok.ensures in
    let reached = c.reached-self.ensures in
    let number = c.args.number in
    let before = told-before read source.inner mid.inner taken.keeps.inner.same in
    let text = take c.in-Ok.count mid.room.items in
    let long : length text ≡ c.in-Ok.count = length-take-le c.in-Ok.count mid.room.items (omega (arith, taken.takes.most, mid.size)) in
    let plain = c.in-Ok-Some.piece in
    let longer : length plain.items + 16 ≡ length text = rw (c.deref.ensures.value, c.in-Ok-Some.field-0-is) at c.in-Ok-Some.ensures.length in
    let some : Some plain.items ≡ suite.opened self.key (chunk_nonce number true) text =
    rw (c.deref.ensures.value, c.in-Ok-Some.field-0-is) at c.in-Ok-Some.ensures.opened in
    let there : c.len-len.result ≡ length plain.items = omega (arith, c.len-len.ensures, plain.ok.0) in
    let short : length plain.items ≤ 65536 = omega (arith, longer, long, taken.takes.most) in
    let payload = payload_from source in
    let first = c.put.ensures.first in
    let as_long : length c.put.new.self.first.piece.items ≡ length plain.items = ap (λ v. length v.items) first.1 in
    let is_last : IsTrue (tells_from source) → IsLastText payload (read.rest mid.inner) number text = λ told.
    last-text payload (read.rest source.inner) (read.rest mid.inner) number text (c.requires.stands told).1 (c.requires.last told)
    (taken.takes.took (and-left _ _ told)) in
    record {
      key_bytes = self.key_bytes;
      chunk = λ held. record {
        in_chunk = omega (arith, there, as_long, reached.place.1);
        small = omega (arith, short, as_long);
        more = omega (arith, c.requires.limit, reached.place.0);
        full = λ middle. absurd (true≢false (sym first.2 ∙ middle));
        first = first.0 ∙ sym reached.place.0;
        unjudged = λ none.
            let whole : length plain.items ≡ 65536 = elim (cases_lt (length plain.items) 65536) [
              | inl less ↦ absurd (true≢false (sym (lt-ltb c.len-len.result 65536 (omega (arith, there, less))) ∙ sym first.3 ∙ none))
              | inr full ↦ omega (arith, full, short)
            ] in
            record { end = omega (arith, there, whole, reached.place.1); is_last = first.2; full = omega (arith, as_long, whole) };
      };
      count_fits = omega (arith, self.count_fits, c.open_as.ensures.opens);
      unspent = λ _ _. taken.takes.unspent;
      kept = λ told.
          let b = before told in
          let same = taken.keeps.payload b in
          let kept : IsKept suite.opened self.key payload c.put.new.self =
          c.put.ensures.kept suite.opened self.key payload (c.make_room.ensures.kept suite.opened self.key payload (self.kept b))
          (λ judged.
          let held = last-held suite.opened self.key payload (read.rest mid.inner) number (length plain.items) text plain.items
          (is_last b) (c.requires.last b) c.requires.limit longer refl (sym some) in
          record {
            opens = held.opens;
            judged = λ _. held.judged (λ e. absurd (omega (arith, e.full, there, ltb-true c.len-len.result 65536 judged)));
            whole = held.whole;
            some = held.some;
          }) in
          subst (λ p. IsKept suite.opened self.key p c.put.new.self) (sym same) kept;
      sound = λ told.
          let b = before told in
          let at = reached.place.0 in
          sound-last suite.opened self.key c.reached-self.result c.put.new.self _ reached.place.2 reached.good.1 source text
          (taken.keeps.payload b) (omega (arith, (taken.takes.moves b).1, long)) (omega (arith, (c.requires.stands b).0, at))
          (subst (λ n. IsLastText payload (read.rest mid.inner) n text) (sym at) (is_last b))
          (subst (λ n. IsLastChunk (length payload.bytes) n) (sym at) (c.requires.last b)) (omega (arith, c.requires.limit, at))
          (omega (arith, longer, as_long)) (omega (arith, there, as_long, reached.place.1)) first.2
          (ap (λ n. suite.opened self.key (chunk_nonce n true) text) at ∙ sym some ∙ ap (λ v. Some v.items) (sym first.1));
    }
