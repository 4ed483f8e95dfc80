use Rattle.std.proofs.Common.{◌≡◌, ◌∙◌, ap, sym, IsTrue, refl, subst, arith, length, take, length-take-le, ◌<◌, ◌^◌, ◌-◌, inl, inr, Ok, Err}
use Rattle.std.proofs.lemmas.List.Elements.{All-drop}
use Rattle.std.proofs.lemmas.Result.{IfOk-from_err}
use Rattle.age_error.specs.ErrorLemmas.{of_error}
use Rattle.age_error.specs.declared.io.Error.TheVariants.{AfterLast}
use Rattle.age_io.proofs.Exiting.{OnOk-refused}
use Rattle.age_io.specs.Reading.{EndsEarly}
use Rattle.age_stream.specs.Reading.{payload_from, tells_from}
use Rattle.age_stream.specs.Reader.{wanted_of}
use Rattle.age_stream.specs.ReadingLemmas.{and-left}
use Rattle.age_stream.proofs.Answered.{refuses-after, good-end}
use Rattle.age_stream.proofs.Asking.{reader-asked}
use Rattle.age_stream.proofs.Cached.{kept-same}
use Rattle.age_stream.proofs.Holding.{end-early, end-more, end-clean, same-rest, sound-stayed}
use Rattle.age_stream.proofs.Keeping.{payload-done, payload-ended, payload-handed, payload-more, told-before}
use Rattle.age_stream.proofs.Named.{after_last-named, inner-named}
use Rattle.age_stream.proofs.reader.StreamReader.end.Goals as goal

-- the inner reader refused in place of its end
pub returns-in_err-count : goal.returns-in_err-count
returns-in_err-count g c =
    let self = c.args.self.now in
    let source = self.source in
    let mid = c.take.new.self in
    let rest = g.R.Read.rest source.inner in
    let taken = c.in_err-count.ensures in
    let e = c.in_err-count.field-0.0 in
    let refused = c.from_residual.ensures.0 in
    let is = c.from_residual.ensures.1 in
    record {
      keeps = payload-handed source mid c.from_residual.result e is (payload-more source mid (Err e) (λ e none. absurd none) taken.keeps);
      names = of_error _ _ _ is (inner-named g.R.Read source.inner e taken.keeps.inner.why);
      says = of_error _ _ _ is (inl taken.refused);
      stays = record { number = refl; at = refl; held = refl; cache = refl; key = refl; opens = refl };
      sought = refl;
      none = IfOk-from_err _ _ refused;
      ends = OnOk-refused _ _ refused;
      refused = of_error _ _ _ is record {
        fails = refl;
        cause = λ told memory quiet.
            end-early g.S.Suite.opened self.key self.place self.cache rest c.requires.good c.requires.held c.requires.last c.requires.given
            (taken.cause (and-left _ _ told) memory quiet);
        refused = λ told memory quiet.
            let wanted : 1 ≡ wanted_of self = rw (c.requires.held, c.requires.last) refl in
            record {
              number = self.place.number;
              from = omega arith;
              to = omega (arith, self.place.offset);
              why = inl (subst (λ n. EndsEarly n rest) wanted (taken.cause (and-left _ _ told) memory quiet));
            };
        after_last = λ told memory quiet. inl (taken.cause (and-left _ _ told) memory quiet);
      };
    }

pub invariant_of-self-in-Break-1 : goal.invariant_of-self-in-Break-1
invariant_of-self-in-Break-1 g c = reader-asked c.args.self.now _ c.take.new.self refl refl refl refl c.in_err-count.ensures.keeps

-- bytes follow the last chunk
pub returns-then-count-gt0 : goal.returns-then-count-gt0
returns-then-count-gt0 g c =
    let self = c.args.self.now in
    let source = self.source in
    let mid = c.take.new.self in
    let read = g.R.Read in
    let takes = c.in_ok-count.ensures.takes in
    let text = take c.in_ok-count.count mid.room.items in
    let size : length text ≡ c.in_ok-count.count = length-take-le c.in_ok-count.count mid.room.items (omega (arith, takes.most, mid.size)) in
    let some : 0 < length text = omega (arith, size, c.if-count-gt0.true) in
    let content = read.content source.inner in
    let follow = λ (told : IsTrue (tells_from source)).
    let sound = self.sound told in
    refuses-after g.S.Suite.seal_of g.S.Suite.opened g.met.S.Suite.cipher self.key self.key_bytes
    (payload_from source) (read.rest source.inner) (read.rest mid.inner)
    self.place.number source.taken self.cache.first.last self.place.at self.cache.first.piece.items text
    (All-drop (λ x. x < 2 ^ 8) (read.place source.inner - source.taken) content.bytes (g.met.R.Read.are_bytes source.inner (and-left _ _ told)))
    (sound.is_held c.requires.held) c.requires.last (sound.is_past c.requires.good c.requires.held) (takes.took (and-left _ _ told)).came some in
    record {
      names = inl after_last-named;
      says = inr (record { text = text; came = takes.turns; some = some; is = refl });
      keeps = payload-ended source mid AfterLast (payload-more source mid _ (λ e none. absurd none) c.in_ok-count.ensures.keeps) (λ device. device)
          (record { is = tt; named = λ told. inr (self.place.number, follow told) });
      stays = record { number = refl; at = refl; held = refl; cache = refl; key = refl; opens = refl };
      sought = refl;
      none = tt;
      ends = tt;
      refused = record {
        fails = refl;
        cause = λ told memory quiet.
            end-more g.S.Suite.opened self.key self.place self.cache (read.rest source.inner) (read.rest mid.inner) text c.requires.good
            c.requires.held c.requires.last c.requires.given (takes.took (and-left _ _ told)).came some;
        refused = λ told memory quiet. record {
          number = self.place.number;
          from = omega arith;
          to = omega (arith, self.place.offset);
          why = inr (follow told);
        };
        after_last = λ told memory quiet. inr refl;
      };
    }

-- the end
pub returns : goal.returns
returns g c =
    let self = c.args.self.now in
    let source = self.source in
    let mid = c.take.new.self in
    let read = g.R.Read in
    let takes = c.in_ok-count.ensures.takes in
    let text = take c.in_ok-count.count mid.room.items in
    let none : length text ≡ 0 = omega (
      arith,
      length-take-le c.in_ok-count.count mid.room.items
          (omega (arith, takes.most, mid.size)),
      c.if-count-gt0.false,
    ) in
    let content = read.content source.inner in
    record {
      keeps = payload-done source mid (payload-more source mid (Ok c.in_ok-count.count) (λ e none. absurd none) c.in_ok-count.ensures.keeps);
      names = tt;
      says = tt;
      stays = record { number = refl; at = refl; held = refl; cache = refl; key = refl; opens = refl };
      sought = refl;
      none = refl;
      ends = record {
        good = refl;
        end = λ told.
            let took = takes.took (and-left _ _ told) in
            end-clean g.S.Suite.opened self.key self.place _ self.cache (read.rest source.inner) (read.rest mid.inner) text c.requires.good
            c.requires.held c.requires.last c.requires.given
            (record { number = refl; at = refl; held = c.requires.held; sought = refl; good = refl }) took.came none (took.ended (omega (
              arith,
              none,
            )));
        ended = λ told.
            let t = and-left _ _ told in
            let took = takes.took t in
            let sound = self.sound told in
            let clean = took.ended (omega (arith, none)) in
            let same = same-rest (read.rest source.inner) (read.rest mid.inner) text took.came none in
            good-end g.S.Suite.seal_of g.S.Suite.opened g.met.S.Suite.cipher self.key self.key_bytes
            (payload_from source)
            (read.rest source.inner) self.place.number source.taken self.place.at self.cache.first.last self.cache.first.piece.items
            (All-drop (λ x. x < 2 ^ 8) (read.place source.inner - source.taken) content.bytes (g.met.R.Read.are_bytes source.inner t))
            (sound.is_held c.requires.held) c.requires.last (sound.is_past c.requires.good c.requires.held) c.requires.given
            (record { bytes = ap (λ s. s.bytes) (sym same) ∙ clean.bytes; ends_well = ap (λ s. s.ends_well) (sym same) ∙ clean.ends_well });
        inner_end = λ told. (takes.took (and-left _ _ told)).came.end;
      };
      refused = tt;
    }

pub invariant_of-self-then-count-gt0 : goal.invariant_of-self-then-count-gt0
invariant_of-self-then-count-gt0 g c = reader-asked c.args.self.now _ c.take.new.self refl refl refl refl c.in_ok-count.ensures.keeps

pub invariant_of-self-3 : goal.invariant_of-self-3
invariant_of-self-3 g c =
    let self = c.args.self.now in
    let source = self.source in
    let mid = c.take.new.self in
    let read = g.R.Read in
    let keeps = c.in_ok-count.ensures.keeps in
    let takes = c.in_ok-count.ensures.takes in
    let text = take c.in_ok-count.count mid.room.items in
    let none : length text ≡ 0 = omega (
      arith,
      length-take-le c.in_ok-count.count mid.room.items
          (omega (arith, takes.most, mid.size)),
      c.if-count-gt0.false,
    ) in
    let told_before = told-before read source.inner mid.inner keeps.inner.same in
    record {
      key_bytes = self.key_bytes;
      chunk = self.chunk;
      count_fits = self.count_fits;
      unspent = λ _ _. takes.unspent;
      kept = λ told. kept-same g.S.Suite.opened self.key self.cache _ _ (keeps.payload (told_before told)) (self.kept (told_before told));
      sound = λ told.
          let b = told_before told in
          sound-stayed g.S.Suite.opened self.key self.place self.cache source (self.sound b) _ mid c.requires.good c.requires.held
          (record { number = refl; at = refl; held = c.requires.held; sought = refl; good = refl }) (keeps.payload b)
          (omega (arith, (takes.moves b).1, c.if-count-gt0.false))
          (same-rest (read.rest source.inner) (read.rest mid.inner) text (takes.took (and-left _ _ b)).came none);
    }
