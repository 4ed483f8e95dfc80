use Rattle.std.specs.Prelude.{cond, Some}
use Rattle.std.proofs.Common.{◌*◌, ◌≡◌, ◌<◌, ◌-◌, ◌^◌, ◌∙◌, arith, length, sym, ap, subst, refl, inl, inr, None, true, IsTrue, ◌+◌, false}
use Rattle.std.proofs.lemmas.Bool.{true≢false}
use Rattle.std.proofs.lemmas.Result.{on_ok_weaker, IfErr-weaker}
use Rattle.std.proofs.lemmas.List.Elements.{All-drop}
use Rattle.age_error.specs.ErrorLemmas.{of_error}
use Rattle.age_io.specs.Stretch.{from_place}
use Rattle.age_v1.specs.Payload.{chunk_nonce, final_chunk}
use Rattle.age_v1.specs.DeliveredPayload.{IsLastChunk, text_at}
use Rattle.age_v1.proofs.OpenedTexts.{shorter}
use Rattle.age_stream.specs.Cache.{last_used, HasOne, HasLast}
use Rattle.age_stream.specs.PrivateCache.{IsKept}
use Rattle.age_stream.specs.Reader.{payload_of, HasEnd}
use Rattle.age_stream.specs.Reading.{payload_from, tells_from, IsHeld}
use Rattle.age_stream.specs.ReadingLemmas.{and-left}
use Rattle.age_stream.proofs.Asking.{reader-asked, reader-shut}
use Rattle.age_stream.proofs.Cached.{moved-in, used-there}
use Rattle.age_stream.proofs.Inner.{past-end}
use Rattle.age_io.proofs.Exiting.{OnOk-refused}
use Rattle.age_stream.proofs.Keeping.{payload-done, payload-handed, payload-later, told-before, told-later}
use Rattle.age_stream.proofs.Last.{last-place}
use Rattle.age_stream.proofs.Moving.{sound-kept, sound-resumed}
use Rattle.age_stream.proofs.Stepping.{enters-later, keeps-at-end, step-later, step-placed}
use Rattle.age_stream.proofs.reader.StreamReader.enter_end.Goals as goal

pub returns-in_err-stand : goal.returns-in_err-stand
returns-in_err-stand g c =
    let self = c.args.self.now in
    let done = c.in_err-stand.ensures in
    let e = c.in_err-stand.field-0.0 in
    let refused = c.from_residual.ensures.0 in
    let is = c.from_residual.ensures.1 in
    record {
      keeps = payload-handed self.source c.stand.new.self c.from_residual.result e is done.keeps;
      same = (refl, c.requires.sought);
      enters = OnOk-refused _ _ refused;
      refused = of_error _ _ _ is (step-placed self _ e c.requires.failed refl done.refused);
      says = of_error _ _ _ is (inr (inr done.says));
      opens = (omega arith, omega arith);
      none = λ _ _. refl;
      chunks = OnOk-refused _ _ refused;
    }

pub returns-in_err-stand-2 : goal.returns-in_err-stand-2
returns-in_err-stand-2 g c =
    let self = c.args.self.now in
    let done = c.in_err-stand-2.ensures in
    let e = c.in_err-stand-2.field-0.0 in
    let refused = c.from_residual-in_err-stand-2.ensures.0 in
    let is = c.from_residual-in_err-stand-2.ensures.1 in
    record {
      keeps = payload-handed self.source c.stand-then-find_last.new.self c.from_residual-in_err-stand-2.result e is done.keeps;
      same = (refl, c.requires.sought);
      enters = OnOk-refused _ _ refused;
      refused = of_error _ _ _ is (step-placed self _ e c.requires.failed refl done.refused);
      says = of_error _ _ _ is (inr (inr done.says));
      opens = (omega arith, omega arith);
      none = λ _ _. refl;
      chunks = OnOk-refused _ _ refused;
    }

pub returns-in_err-stand-3 : goal.returns-in_err-stand-3
returns-in_err-stand-3 g c =
    let self = c.args.self.now in
    let done = c.in_err-stand-3.ensures in
    let e = c.in_err-stand-3.field-0.0 in
    let refused = c.from_residual-in_err-stand-3.ensures.0 in
    let is = c.from_residual-in_err-stand-3.ensures.1 in
    record {
      keeps = payload-handed self.source c.stand-2.new.self c.from_residual-in_err-stand-3.result e is done.keeps;
      same = (refl, c.requires.sought);
      enters = OnOk-refused _ _ refused;
      refused = of_error _ _ _ is (step-placed self _ e c.requires.failed refl done.refused);
      says = of_error _ _ _ is (inr (inr done.says));
      opens = (omega arith, omega arith);
      none = λ _ _. refl;
      chunks = OnOk-refused _ _ refused;
    }

-- it is held as the last
pub returns-then-holds_last : goal.returns-then-holds_last
returns-then-holds_last g c =
    let self = c.args.self.now in
    let read = g.R.Read in
    let mid = c.stand.new.self in
    let done = c.in_ok-stand.ensures in
    let reached = c.reached-self.ensures in
    let held = c.holds_last.ensures.yes c.if-holds_last.true in
    let there : self.cache.first.number ≡ final_chunk c.args.size = (self.chunk held.1).first ∙ held.3 in
    record {
      keeps = payload-done self.source c.stand.new.self done.keeps;
      same = (refl, reached.good.1);
      enters = record {
        good = (reached.good.0, reached.place.2, held.2, reached.place.0);
        arrives = λ told.
            let source = self.source in
            let place = last-place g.S.Suite.opened self.key
            (shorter g.S.Suite.seal_of g.S.Suite.opened g.met.S.Suite.cipher self.key self.key_bytes)
            (payload_of self) self.place.number self.place.at c.args.size c.args.len
            self.cache.first.last self.cache.first.piece.items (All-drop (λ x. x < 2 ^ 8) (read.place source.inner - source.taken) (read.content
            source.inner).bytes
            (g.met.R.Read.are_bytes source.inner (and-left _ _ told)))
            ((self.sound told).is_held held.1) (c.requires.size told) held.3 c.requires.last c.requires.len in
            omega (arith, place, c.len.ensures, self.cache.first.piece.ok.0, held.3, reached.place.0, reached.place.1);
        inner_end = λ told. ap (λ s. s.ends_well) (done.stands.rest told);
      };
      refused = tt;
      says = tt;
      opens = (omega arith, omega arith);
      none = λ _ _. refl;
      chunks = record {
        alone = λ failed. absurd (true≢false (sym failed ∙ held.0));
        uses = λ judged. ap (λ j. cond j (Some self.cache.first.number) None) judged ∙ ap (λ n. Some n) there;
        keeps_last = λ _ b is. used-there self.cache b is;
        has = λ _ _ b is. is;
      };
    }

pub invariant_of-self-then-holds_last-2 : goal.invariant_of-self-then-holds_last-2
invariant_of-self-then-holds_last-2 g c =
    let self = c.args.self.now in
    let read = g.R.Read in
    let cache = self.cache in
    let mid = c.stand.new.self in
    let done = c.in_ok-stand.ensures in
    let reached = c.reached-self.ensures in
    let now = c.reached-self.result in
    let held = c.holds_last.ensures.yes c.if-holds_last.true in
    let law = shorter g.S.Suite.seal_of g.S.Suite.opened g.met.S.Suite.cipher self.key self.key_bytes in
    let before = told-before read self.source.inner mid.inner done.keeps.inner.same in
    let payload = payload_from mid in
    let was = self.chunk held.1 in
    let number : now.number ≡ self.place.number = reached.place.0 ∙ sym held.3 in
    let there : now.at ≡ length cache.first.piece.items = omega (arith, c.len.ensures, cache.first.piece.ok.0, reached.place.1) in
    record {
      key_bytes = self.key_bytes;
      chunk = λ _.
          let at_end = moved-in self.place.number self.place.at now.at cache cache refl refl (omega (arith, was.in_chunk, there))
          (omega (arith, there)) was in
          record {
            in_chunk = at_end.in_chunk;
            small = at_end.small;
            more = omega (arith, number, at_end.more);
            full = at_end.full;
            first = at_end.first ∙ sym number;
            unjudged = at_end.unjudged;
          };
      count_fits = self.count_fits;
      unspent = λ _ _. done.stands.unspent;
      kept = λ told.
          let b = before told in
          let k = subst (λ p. IsKept g.S.Suite.opened self.key p cache) (sym (done.keeps.payload b)) (self.kept b) in
          record { first = k.first; other = k.other };
      sound = λ told.
          let b = before told in
          let same = done.keeps.payload b in
          let size : c.args.size ≡ length payload.bytes = c.requires.size b ∙ ap (λ p. length p.bytes) (sym same) in
          let past = past-end payload (read.rest mid.inner) now.number mid.taken cache.first.last held.2
          (omega (arith, done.stands.taken b, size))
          (omega (arith, reached.place.0, size, c.requires.last.fits))
          (done.stands.rest b ∙ ap (from_place c.args.size) (sym same)
          ∙ ap (λ n. from_place n payload) (sym (done.stands.taken b))) in
          sound-kept g.S.Suite.opened self.key self.place now cache _ self.source mid (self.sound b) law
          (All-drop (λ x. x < 2 ^ 8) (read.place mid.inner - mid.taken) (read.content mid.inner).bytes
          (g.met.R.Read.are_bytes mid.inner (and-left (read.tells mid.inner) (read.steady mid.inner) told)))
          held.1 number reached.place.2 reached.good.1 refl refl same (omega (arith, there))
          (λ apart e. apart (record { is_last = e.is_last; none = e.none; full = omega (arith, e.full, there, was.small, was.in_chunk) })) past;
    }

-- it is kept as the last
pub returns-then-find_last : goal.returns-then-find_last
returns-then-find_last g c =
    let self = c.args.self.now in
    let read = g.R.Read in
    let cache = c.find_last.new.self in
    let done = c.in_ok-stand-2.ensures in
    let reached = c.reached-self-then-find_last.ensures in
    let found = c.find_last.ensures.found c.if-find_last.true in
    let number = final_chunk c.args.size in
    let same = c.find_last.ensures.same in
    record {
      keeps = payload-done self.source c.stand-then-find_last.new.self done.keeps;
      same = (refl, reached.good.1);
      enters = record {
        good = (reached.good.0, reached.place.2, found.2, reached.place.0);
        arrives = λ told.
            let source = self.source in
            let payload = payload_of self in
            let kept = c.find_last.ensures.kept g.S.Suite.opened self.key payload
            (c.keep_if.ensures.kept g.S.Suite.opened self.key payload (self.kept told)) in
            let place = last-place g.S.Suite.opened self.key
            (shorter g.S.Suite.seal_of g.S.Suite.opened g.met.S.Suite.cipher self.key self.key_bytes)
            payload cache.first.number 0 c.args.size c.args.len
            cache.first.last cache.first.piece.items (All-drop (λ x. x < 2 ^ 8) (read.place source.inner - source.taken) (read.content
            source.inner).bytes
            (g.met.R.Read.are_bytes source.inner (and-left _ _ told)))
            (kept.first found.0) (c.requires.size told) found.1 c.requires.last c.requires.len in
            omega (arith, place, c.len-then-find_last.ensures, cache.first.piece.ok.0, found.1, reached.place.0, reached.place.1);
        inner_end = λ told. ap (λ s. s.ends_well) (done.stands.rest told);
      };
      refused = tt;
      says = tt;
      opens = (omega arith, omega arith);
      none = λ _ _. refl;
      chunks = record {
        alone = λ failed. absurd (c.keep_if.ensures.none (rw failed refl) number (same.had number (inl (found.0, found.1))));
        uses = λ judged. ap (λ j. cond j (Some cache.first.number) None) judged ∙ ap (λ n. Some n) found.1;
        keeps_last = λ good b is. same.has b (subst (λ k. HasOne k b) (sym (c.keep_if.ensures.same (rw good refl))) (used-there self.cache b is));
        has = λ good _ b is. same.has b (subst (λ k. HasOne k b) (sym (c.keep_if.ensures.same (rw good refl))) is);
      };
    }

pub invariant_of-self-then-find_last-2 : goal.invariant_of-self-then-find_last-2
invariant_of-self-then-find_last-2 g c =
    let self = c.args.self.now in
    let read = g.R.Read in
    let cache = c.find_last.new.self in
    let mid = c.stand-then-find_last.new.self in
    let done = c.in_ok-stand-2.ensures in
    let reached = c.reached-self-then-find_last.ensures in
    let now = c.reached-self-then-find_last.result in
    let found = c.find_last.ensures.found c.if-find_last.true in
    let whole = cache.first.whole in
    let number : cache.first.number ≡ now.number = found.1 ∙ sym reached.place.0 in
    let there : now.at ≡ length cache.first.piece.items = omega (arith, c.len-then-find_last.ensures, cache.first.piece.ok.0, reached.place.1) in
    let law = shorter g.S.Suite.seal_of g.S.Suite.opened g.met.S.Suite.cipher self.key self.key_bytes in
    let before = told-before read self.source.inner mid.inner done.keeps.inner.same in
    let payload = payload_from mid in
    let kept : IsTrue (tells_from mid) → IsKept g.S.Suite.opened self.key payload cache = λ told.
    c.find_last.ensures.kept g.S.Suite.opened self.key payload (c.keep_if.ensures.kept g.S.Suite.opened self.key payload
    (subst (λ p. IsKept g.S.Suite.opened self.key p self.cache) (sym (done.keeps.payload (before told))) (self.kept (before told)))) in
    record {
      key_bytes = self.key_bytes;
      chunk = λ held. record {
        in_chunk = omega (arith, there);
        small = whole.small;
        more = omega (arith, number, whole.limit);
        full = whole.full;
        first = number;
        unjudged = λ none. absurd (true≢false (sym found.0 ∙ none));
      };
      count_fits = self.count_fits;
      unspent = λ _ _. done.stands.unspent;
      kept = λ told. let k = kept told in record { first = k.first; other = k.other };
      sound = λ told.
          let b = before told in
          let same = done.keeps.payload b in
          let size : c.args.size ≡ length payload.bytes = c.requires.size b ∙ ap (λ p. length p.bytes) (sym same) in
          let held = subst (λ n. IsHeld g.S.Suite.opened self.key payload n cache.first.last 0 cache.first.piece.items) number ((kept told).first
          found.0) in
          let past = past-end payload (read.rest mid.inner) now.number mid.taken cache.first.last found.2
          (omega (arith, done.stands.taken b, size))
          (omega (arith, reached.place.0, size, c.requires.last.fits))
          (done.stands.rest b ∙ ap (from_place c.args.size) (sym same)
          ∙ ap (λ n. from_place n payload) (sym (done.stands.taken b))) in
          sound-resumed g.S.Suite.opened self.key now _ mid reached.place.2 reached.good.1 law
          (All-drop (λ x. x < 2 ^ 8) (read.place mid.inner - mid.taken) (read.content mid.inner).bytes
          (g.met.R.Read.are_bytes mid.inner (and-left (read.tells mid.inner) (read.steady mid.inner) told))) (omega (arith, there)) held past;
    }

-- it is opened
pub returns : goal.returns
returns g c =
    let self = c.args.self.now in
    let suite = g.S.Suite in
    let number = final_chunk c.args.size in
    let mid = c.stand-2.new.self in
    let done = c.in_ok-stand-3.ensures in
    let new = c.open_last.new.self in
    let last = c.open_last.ensures in
    let apart : c.args.was_failed ≡ false → HasEnd self number → ⊥ = λ good is. elim is [
      | inl h ↦ c.holds_last.ensures.no c.if-holds_last.false good h
      | inr h ↦ c.find_last.ensures.none c.if-find_last.false (subst (λ k. HasLast k number) (sym (c.keep_if.ensures.same (rw good refl))) h)
    ] in
    record {
      keeps = payload-later self.source mid c.open_last.result new.source done.keeps last.keeps;
      same = last.same;
      enters = on_ok_weaker c.open_last.result (enters-later self _ new number (length (payload_from mid).bytes - 16 * (number + 1)) c.args.len
          done.keeps
          (λ told. omega (arith, ap (λ p. length p.bytes) (done.keeps.payload told), c.requires.size told, c.requires.len))) last.enters;
      refused = IfErr-weaker c.open_last.result _ _
          (λ e r. step-later self _ new e done.keeps last.keeps refl
          (λ told bad. (
            bad.0,
            subst (λ p. suite.opened self.key (chunk_nonce number true) (text_at number p) ≡ None) (done.keeps.payload told) bad.1,
          )) r) last.refused;
      says = IfErr-weaker c.open_last.result _ _ (λ e why. elim why [
        | inl bad ↦ inl (λ told.
            let was = bad (told-later g.R.Read self.source.inner mid.inner done.keeps.inner.same told) in (
              was.0,
              subst (λ p. suite.opened self.key (chunk_nonce number true) (text_at number p) ≡ None) (done.keeps.payload told) was.1,
            ))
        | inr other ↦ inr other
      ]) last.says;
      opens = last.opens;
      none = λ good is. absurd (apart good is);
      chunks = on_ok_weaker c.open_last.result (keeps-at-end self _ new number c.args.was_failed
          (λ failed b one. c.keep_if.ensures.none (rw failed refl) b (c.find_last.ensures.same.had b one))
          (λ good. c.find_last.ensures.same.same_last ∙ ap last_used (c.keep_if.ensures.same (rw good refl))) apart) last.chunks;
    }

pub invariant_of-self : goal.invariant_of-self
invariant_of-self g c =
    reader-asked c.args.self.now c.args.self.now.place c.stand.new.self c.requires.failed refl refl refl c.in_err-stand.ensures.keeps

pub invariant_of-self-in-Break-branch-2 : goal.invariant_of-self-in-Break-branch-2
invariant_of-self-in-Break-branch-2 g c =
    let self = c.args.self.now in
    reader-shut self _ c.find_last.new.self c.stand-then-find_last.new.self c.requires.failed refl refl refl
    (λ payload kept. c.find_last.ensures.kept g.S.Suite.opened self.key payload (c.keep_if.ensures.kept g.S.Suite.opened self.key payload kept))
    c.in_err-stand-2.ensures.keeps

pub invariant_of-self-3 : goal.invariant_of-self-3
invariant_of-self-3 g c =
    let self = c.args.self.now in
    reader-shut self _ c.find_last.new.self c.stand-2.new.self c.requires.failed refl refl refl
    (λ payload kept. c.find_last.ensures.kept g.S.Suite.opened self.key payload (c.keep_if.ensures.kept g.S.Suite.opened self.key payload kept))
    c.stand-2.ensures.keeps

pub open_last-requires-clause-stands : goal.open_last-requires-clause-stands
open_last-requires-clause-stands g c = λ told.
    let self = c.args.self.now in
    let done = c.in_ok-stand-3.ensures in
    let before = told-before g.R.Read self.source.inner c.stand-2.new.self.inner done.keeps.inner.same told in (
      done.stands.taken before,
      done.stands.rest before
          ∙ ap (from_place (65552 * final_chunk c.args.size)) (sym (done.keeps.payload before)),
    )

pub open_last-requires-clause-last : goal.open_last-requires-clause-last
open_last-requires-clause-last g c = λ told.
    let self = c.args.self.now in
    let done = c.in_ok-stand-3.ensures in
    let before = told-before g.R.Read self.source.inner c.stand-2.new.self.inner done.keeps.inner.same told in
    subst (λ n. IsLastChunk n (final_chunk c.args.size))
    (c.requires.size before ∙ ap (λ p. length p.bytes) (sym (done.keeps.payload before))) c.requires.last
