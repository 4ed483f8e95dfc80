use Rattle.std.proofs.Common.{◌≡◌, ◌<◌, ◌∙◌, IsTrue, length, arith, refl, sym}
use Rattle.std.proofs.lemmas.Result.{IfErr-weaker, IfOk-weaker}
use Rattle.age_io.specs.Reading.{Delivers}
use Rattle.age_armor.proofs.Staging.{gives-asked, gives-end, few_clean, few_fault, few_end, few_bad}
use Rattle.age_armor.proofs.Refusing.{end-later, kept-later, kept-error, kept-refused, text-well}
use Rattle.age_armor.proofs.Taking.{quiet_after}
use Rattle.age_armor.proofs.stages.detect.Given as given
use Rattle.age_armor.proofs.stages.detect.Goals as goal

pub returns-in-Ok-false : goal.returns-in-Ok-false
returns-in-Ok-false g c =
    let start = c.args.source.now.inner in
    let got = c.in-Ok-false.ensures in
    let few = λ (told : IsTrue (g.R.Read.tells start)). got.few told c.in-Ok-false.field-0-test in
    record {
      kept = kept-refused _ _ _ _ _ _ got.kept (λ is. is) (text-well g.R.Read start (g.met.R.Read.stands start) (λ told. (few told).end));
      counts = got.lines;
      fits = tt;
      gives = gives-end _ _ _ _ _ (λ told. few_clean (length c.take_front.new.front) (g.R.Read.rest start) (omega arith) (few told));
      found = tt;
      form = λ told. tt;
    }

pub returns-in-Err : goal.returns-in-Err
returns-in-Err g c =
    let got = c.in-Err.ensures in
    record {
      kept = kept-error _ _ _ _ _ c.in-Err.e got.kept;
      counts = got.lines;
      fits = tt;
      gives = gives-asked _ _ _ _ _ (λ told other quiet.
          few_fault (length c.take_front.new.front) (g.R.Read.rest c.args.source.now.inner) c.in-Err.e (omega arith) (got.cause told other quiet))
          got.why;
      found = tt;
      form = λ told. tt;
    }

pub returns-in-Ok-true-is_at_end : goal.returns-in-Ok-true-is_at_end
returns-in-Ok-true-is_at_end g c =
    let start = c.args.source.now.inner in
    let got = c.in-Ok-true.ensures in
    let now = c.in-Ok-true-is_at_end.ensures in
    let bytes = λ (told : IsTrue (g.R.Read.tells start)). got.bytes told c.in-Ok-true.field-0-test in
    let end = λ (told : IsTrue (g.R.Read.tells start)). now.end (got.kept.keeps.same.tells ∙ told) c.in-Ok-true-is_at_end.field-0-test in
    record {
      kept = kept-refused _ _ _ _ _ _ (kept-later _ _ start c.take_front.new.self.inner _ _ c.take_front.new.self.taken _ got.kept now.kept)
          (λ is. is)
          (text-well g.R.Read start (g.met.R.Read.stands start) (λ told. sym (bytes told).end ∙ (end told).ends_well));
      counts = now.none.lines ∙ got.lines;
      fits = tt;
      gives = gives-end _ _ _ _ _ (λ told.
          few_clean 36 (g.R.Read.rest start) (omega arith)
          (few_end c.take_front.new.front _ (g.R.Read.rest c.take_front.new.self.inner) (omega arith) (bytes told) (end told)));
      found = tt;
      form = λ told. tt;
    }

pub returns-in-Err-is_at_end : goal.returns-in-Err-is_at_end
returns-in-Err-is_at_end g c =
    let start = c.args.source.now.inner in
    let got = c.in-Ok-true.ensures in
    let now = c.in-Err-is_at_end.ensures in
    record {
      kept = kept-error _ _ _ _ _ c.in-Err-is_at_end.e
          (kept-later _ _ start c.take_front.new.self.inner _ _ c.take_front.new.self.taken _ got.kept now.kept);
      counts = now.none.lines ∙ got.lines;
      fits = tt;
      gives = gives-asked _ _ _ _ _ (λ told other quiet.
          few_fault 36 (g.R.Read.rest start) c.in-Err-is_at_end.e (omega arith)
          (few_bad c.take_front.new.front _ (g.R.Read.rest c.take_front.new.self.inner) (omega arith)
          (got.bytes told c.in-Ok-true.field-0-test)
          (now.cause (got.kept.keeps.same.tells ∙ told) other (quiet_after _ _ _ got.kept.keeps.same.faults now.kept.keeps.same.faults quiet))))
          (λ other. got.kept.keeps.narrows c.in-Err-is_at_end.e (now.why other));
      found = tt;
      form = λ told. tt;
    }

-- a byte follows the front
follows : (g : given.Over) (c : goal.After-after_front g) → IsTrue (g.R.Read.tells c.args.source.now.inner) →
    IsTrue (g.R.Read.tells c.is_at_end.new.self.inner)
    × Delivers c.take_front.new.front (g.R.Read.rest c.args.source.now.inner) (g.R.Read.rest c.is_at_end.new.self.inner)
    × (0 < length (g.R.Read.rest c.is_at_end.new.self.inner).bytes)
follows g c told =
    let got = c.in-Ok-true.ensures in
    let now = c.in-Ok-false-is_at_end.ensures in
    let mid = got.kept.keeps.same.tells ∙ told in
    let same = now.none.same mid in
    (now.kept.keeps.same.tells ∙ mid, rw same (got.bytes told c.in-Ok-true.field-0-test), rw same (now.some mid c.in-Ok-false-is_at_end.field-0-test))

pub returns : goal.returns
returns g c =
    let start = c.args.source.now.inner in
    let got = c.in-Ok-true.ensures in
    let now = c.in-Ok-false-is_at_end.ensures in
    let last = c.after_front.ensures in
    record {
      kept = kept-later _ _ start c.is_at_end.new.self.inner _ _ c.is_at_end.new.self.taken _
          (kept-later _ _ start c.take_front.new.self.inner _ _ c.take_front.new.self.taken _ got.kept now.kept) last.kept;
      counts = last.counts ∙ now.none.lines ∙ got.lines;
      fits = IfOk-weaker c.after_front.result _ _ (λ piece fits. omega (arith, fits)) last.fits;
      gives = record {
        taken = λ told.
            let all = got.taken told c.in-Ok-true.field-0-test in
            let more = last.kept.more (follows g c told).0 in
            let size : length c.take_front.new.front ≡ 35 = omega arith in
            IfOk-weaker c.after_front.result _ _ (λ piece fits. omega (arith, fits, all, size, now.none.taken, more)) last.fits;
        bytes = λ told. let on = follows g c told in last.bytes on.0 (g.R.Read.rest start) on.1 on.2;
        cause = λ told.
            let on = follows g c told in
            IfErr-weaker c.after_front.result _ _ (λ e h other quiet. h other
            (quiet_after _ _ _ (omega (arith, got.kept.keeps.same.faults, now.kept.keeps.same.faults)) last.kept.keeps.same.faults quiet))
            (last.cause on.0 (g.R.Read.rest start) on.1 on.2);
        why = λ told.
            let on = follows g c told in
            IfErr-weaker c.after_front.result _ _
            (λ e why. end-later g.R.Read start c.is_at_end.new.self.inner _ _ e
            (λ e h. got.kept.keeps.narrows e (now.kept.keeps.narrows e h)) refl why)
            (last.why on.0 (g.R.Read.rest start) on.1 on.2);
      };
      found = last.found;
      form = λ told. let on = follows g c told in last.form on.0 (g.R.Read.rest start) on.1 on.2;
    }
