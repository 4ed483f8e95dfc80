use Rattle.std.proofs.Common.{◌≡◌, ◌≤◌, ◌<◌, ◌-◌, ◌*◌, ◌/◌, ◌^◌, ◌∙◌, arith, length, sym, ap, subst, refl, inl, IsTrue}
use Rattle.std.proofs.lemmas.Bool.{true≢false}
use Rattle.std.proofs.lemmas.List.Elements.{All-drop}
use Rattle.age_error.specs.ErrorLemmas.{of_error}
use Rattle.age_io.specs.Stretch.{from_place}
use Rattle.age_v1.proofs.OpenedTexts.{shorter}
use Rattle.age_v1.proofs.TextLengths.{length-text}
use Rattle.age_stream.specs.Cache.{HasOne, last_used}
use Rattle.age_stream.specs.PrivateCache.{IsKept}
use Rattle.age_stream.specs.Reader.{payload_of}
use Rattle.age_stream.specs.Reading.{payload_from, tells_from, IsHeld}
use Rattle.age_stream.specs.ReadingLemmas.{and-left}
use Rattle.age_stream.proofs.Inner.{past-kept}
use Rattle.age_io.proofs.Exiting.{OnOk-refused}
use Rattle.age_stream.proofs.Asking.{reader-shut}
use Rattle.age_stream.proofs.Keeping.{payload-done, payload-handed, told-before}
use Rattle.age_stream.proofs.Last.{inside-held, text-held}
use Rattle.age_stream.proofs.Moving.{sound-resumed}
use Rattle.age_stream.proofs.Stepping.{step-placed}
use Rattle.age_stream.proofs.reader.StreamReader.enter.Goals as goal

pub returns-in_err-stand : goal.returns-in_err-stand
returns-in_err-stand g c =
    let self = c.args.self.now in
    let done = c.in_err-stand.ensures in
    let e = c.in_err-stand.field-0.0 in
    let is = c.from_residual.ensures.1 in
    record {
      keeps = payload-handed self.source c.stand.new.self c.from_residual.result e is done.keeps;
      same = (refl, c.requires.sought, refl);
      enters = OnOk-refused _ _ c.from_residual.ensures.0;
      refused = of_error _ _ _ is (step-placed self _ e c.requires.failed refl done.refused);
      says = of_error _ _ _ is done.says;
    }

pub returns-in_err-stand-2 : goal.returns-in_err-stand-2
returns-in_err-stand-2 g c =
    let self = c.args.self.now in
    let done = c.in_err-stand-2.ensures in
    let e = c.in_err-stand-2.field-0.0 in
    let is = c.from_residual-in_err-stand-2.ensures.1 in
    record {
      keeps = payload-handed self.source c.stand-2.new.self c.from_residual-in_err-stand-2.result e is done.keeps;
      same = (refl, c.requires.sought, refl);
      enters = OnOk-refused _ _ c.from_residual-in_err-stand-2.ensures.0;
      refused = of_error _ _ _ is (step-placed self _ e c.requires.failed refl done.refused);
      says = of_error _ _ _ is done.says;
    }

-- the chunk is opened
pub invariant_of-self-then-find : goal.invariant_of-self-then-find
invariant_of-self-then-find g c =
    let self = c.args.self.now in
    let read = g.R.Read in
    let cache = c.find.new.self in
    let mid = c.stand.new.self in
    let now = c.reached-self.result in
    let done = c.in_ok-stand.ensures in
    let reached = c.reached-self.ensures in
    let found = c.find.ensures.found c.if-find.true in
    let chunk = cache.first.piece.items in
    let whole = cache.first.whole in
    let law = shorter g.S.Suite.seal_of g.S.Suite.opened g.met.S.Suite.cipher self.key self.key_bytes in
    let before = told-before read self.source.inner mid.inner done.keeps.inner.same in
    let payload = payload_from mid in
    let number : cache.first.number ≡ now.number = found.1 ∙ sym reached.place.0 in
    let within : now.at ≤ length chunk = omega (arith, found.2, reached.place.1) in
    let kept : IsTrue (tells_from mid) → IsKept g.S.Suite.opened self.key payload cache = λ told.
    c.find.ensures.kept g.S.Suite.opened self.key payload (c.keep_if.ensures.kept g.S.Suite.opened self.key payload
    (subst (λ p. IsKept g.S.Suite.opened self.key p self.cache) (sym (done.keeps.payload (before told))) (self.kept (before told)))) in
    record {
      key_bytes = self.key_bytes;
      chunk = λ held. record {
        in_chunk = within;
        small = whole.small;
        more = omega (arith, c.requires.limit, reached.place.0);
        full = whole.full;
        first = number;
        unjudged = λ none. absurd (true≢false (sym found.0 ∙ none));
      };
      count_fits = self.count_fits;
      unspent = λ _ _. done.stands.unspent;
      kept = kept;
      sound = λ told.
          let b = before told in
          let placed = done.stands in
          let same = done.keeps.payload b in
          let size : c.args.size ≡ length payload.bytes = c.requires.size b ∙ ap (λ p. length p.bytes) (sym same) in
          let bytes = All-drop (λ x. x < 2 ^ 8) (read.place mid.inner - mid.taken) (read.content mid.inner).bytes
          (g.met.R.Read.are_bytes mid.inner (and-left (read.tells mid.inner) (read.steady mid.inner) told)) in
          let held = subst (λ n. IsHeld g.S.Suite.opened self.key payload n cache.first.last 0 chunk) number ((kept told).first found.0) in
          let past = past-kept payload (read.rest mid.inner) now.number mid.taken c.min-past.result c.args.size cache.first.last
          size (omega (arith, c.min-past.ensures, reached.place.0))
          (placed.taken b) (placed.rest b ∙ ap (from_place c.min-past.result) (sym same))
          (λ middle.
          let full = whole.full middle in
          let in_it = inside-held g.S.Suite.opened self.key law payload now.number 0 (length chunk) cache.first.last chunk bytes held (omega arith) in
          omega (arith, in_it.inside (omega (arith, full)), full, size)) in
          sound-resumed g.S.Suite.opened self.key now cache mid reached.place.2 reached.good.1 law bytes within held past;
    }

pub returns-then-find : goal.returns-then-find
returns-then-find g c =
    let reached = c.reached-self.ensures in
    let done = c.in_ok-stand.ensures in
    let found = c.find.ensures.found c.if-find.true in
    record {
      keeps = payload-done c.args.self.now.source c.stand.new.self done.keeps;
      same = (refl, reached.good.1, refl);
      enters = record {
        good = reached.good.0;
        arrives = omega (arith, reached.place.0, reached.place.1);
        before = λ after. omega (arith, after.2, found.2, reached.place.1);
        unspent = done.stands.unspent;
        rest = λ told. done.stands.rest told ∙ ap (λ n. from_place n (payload_of c.args.self.now)) (sym (done.stands.taken told));
        more = λ none. absurd (true≢false (sym reached.place.2 ∙ none));
        has = λ good b is. c.find.ensures.same.has b (subst (λ k. HasOne k b) (sym (c.keep_if.ensures.same (rw good refl))) is);
        same_last = λ good. c.find.ensures.same.same_last ∙ ap last_used (c.keep_if.ensures.same (rw good refl));
        none = λ failed. absurd (c.keep_if.ensures.none (rw failed refl) (c.args.place / 65536)
            (c.find.ensures.same.had (c.args.place / 65536) (inl (found.0, found.1))));
        finds = λ _ _ _. (reached.place.2, omega (arith, found.2, reached.place.1));
      };
      refused = tt;
      says = tt;
    }

pub returns : goal.returns
returns g c =
    let reached = c.reached-self-2.ensures in
    let done = c.in_ok-stand-2.ensures in
    record {
      keeps = payload-done c.args.self.now.source c.stand-2.new.self done.keeps;
      same = (refl, reached.good.1, refl);
      enters = record {
        good = reached.good.0;
        arrives = omega (arith, reached.place.0, reached.place.1);
        before = λ after. true≢false (sym after.0 ∙ reached.place.2);
        unspent = done.stands.unspent;
        rest = λ told. done.stands.rest told ∙ ap (λ n. from_place n (payload_of c.args.self.now)) (sym (done.stands.taken told));
        more = λ _. omega (arith, c.requires.before, reached.place.0);
        has = λ good b is. c.find.ensures.same.has b (subst (λ k. HasOne k b) (sym (c.keep_if.ensures.same (rw good refl))) is);
        same_last = λ good. c.find.ensures.same.same_last ∙ ap last_used (c.keep_if.ensures.same (rw good refl));
        none = λ failed. (reached.place.2, λ b has. c.keep_if.ensures.none (rw failed refl) b (c.find.ensures.same.had b has));
        finds = λ told good has.
            let self = c.args.self.now in
            let read = g.R.Read in
            let payload = payload_from self.source in
            let cache = c.find.new.self in
            let law = shorter g.S.Suite.seal_of g.S.Suite.opened g.met.S.Suite.cipher self.key self.key_bytes in
            let there = c.find.ensures.none c.if-find.false
            (subst (λ k. HasOne k (c.args.place / 65536)) (sym (c.keep_if.ensures.same (rw good refl))) has) in
            let kept = c.find.ensures.kept g.S.Suite.opened self.key payload
            (c.keep_if.ensures.kept g.S.Suite.opened self.key payload (self.kept told)) in
            let bytes = All-drop (λ x. x < 2 ^ 8) (read.place self.source.inner - self.source.taken) (read.content self.source.inner).bytes
            (g.met.R.Read.are_bytes self.source.inner (and-left _ _ told)) in
            let longer = text-held g.S.Suite.opened self.key law payload cache.first.number 0 cache.first.last cache.first.piece.items bytes
            (kept.first there.0) in
            absurd (omega (
              arith,
              there.1,
              there.2,
              longer,
              length-text 65552
                  (65552 * cache.first.number) payload.bytes,
              c.requires.size told,
              c.requires.before,
            ));
      };
      refused = tt;
      says = tt;
    }

pub invariant_of-self-in-Break-1 : goal.invariant_of-self-in-Break-1
invariant_of-self-in-Break-1 g c =
    let self = c.args.self.now in
    reader-shut self _ c.find.new.self c.stand.new.self c.requires.failed refl refl refl
    (λ payload kept. c.find.ensures.kept g.S.Suite.opened self.key payload (c.keep_if.ensures.kept g.S.Suite.opened self.key payload kept))
    c.in_err-stand.ensures.keeps

pub invariant_of-self-in-Break-branch-2 : goal.invariant_of-self-in-Break-branch-2
invariant_of-self-in-Break-branch-2 g c =
    let self = c.args.self.now in
    reader-shut self _ c.find.new.self c.stand-2.new.self c.requires.failed refl refl refl
    (λ payload kept. c.find.ensures.kept g.S.Suite.opened self.key payload (c.keep_if.ensures.kept g.S.Suite.opened self.key payload kept))
    c.in_err-stand-2.ensures.keeps
