use Rattle.std.proofs.Common.{OnOk, ◌+◌, ◌≡◌, ◌∙◌, ◌≤◌, IsTrue, arith, length, ap, sym, subst, refl, inl, inr}
use Rattle.std.proofs.lemmas.Bool.{cases_Bool, cases_lt, true≢false}
use Rattle.std.proofs.lemmas.Result.{IfOk-weaker, IfErr-weaker, on_ok_weaker}
use Rattle.age_io.proofs.Keeping.{keeps-done, same-self}
use Rattle.age_error.specs.declared.io.Error.TheVariants.{PastEnd}
use Rattle.age_error.specs.declared.io.SeekFrom.TheVariants.{Start}
use Rattle.age_v1.specs.DeliveredArmor.{begins_armor}
use Rattle.age_armor.specs.Stages.{is_start}
use Rattle.age_armor.specs.Reader.{armored_reader, armored_content}
use Rattle.age_armor.proofs.Aiming.{moved-within, moved-past, past-moved}
use Rattle.age_armor.proofs.Keeping.{goes-error, goes-refused, text-still}
use Rattle.age_armor.proofs.Pacing.{known_length, some_length}
use Rattle.age_armor.proofs.Going.{reaches-none, misses-none, spares-own, stays-none, goes-to-later}
use Rattle.age_armor.proofs.reader.ArmoredReader.go_to.Goals as goal

-- ---- where nothing is read

pub returns-then-is_at : goal.returns-then-is_at
returns-then-is_at g c =
    let before = c.args.self.now in
    let at = c.is_at.ensures.yes c.if-is_at.true in
    record {
      goes = record { keeps = keeps-done _ _ _ _ (same-self _ before) (λ e h. h); unspent = before.sound.unspent at.0 at.1 };
      text = text-still _ _ refl refl refl;
      reaches = record {
        stands = record {
          good = at.0;
          rest = λ told steady. ((before.sound.text told steady).here at.0 at.1).rest;
          ending = λ told steady. ((before.sound.text told steady).here at.0 at.1).ending;
        };
        there = refl;
        place = λ told. at.2;
        exact = λ told steady. moved-within c.args.target (length (armored_content before).bytes)
            (subst (λ n. n ≤ length (armored_content before).bytes) at.2 (before.sound.text told steady).inside);
      };
      misses = misses-none _ _ _ _;
      spares = record { lines = λ told steady noting near. omega arith; outside = λ told steady known. tt };
      stays = record { still = λ good begun same. (refl, refl); unmoved = λ told steady good same. omega arith };
      below = λ told steady plain. inl refl;
    }

pub returns-then-ends_before : goal.returns-then-ends_before
returns-then-ends_before g c =
    let before = c.args.self.now in
    let known = known_length before.marks.length c.args.target (c.ends_before.ensures.yes c.if-ends_before.true) in
    record {
      goes = goes-refused armored_reader _ before before before PastEnd (same-self _ before) (same-self _ before) (λ device. device) (inl (inl tt));
      text = text-still _ _ refl refl refl;
      reaches = reaches-none _ _ _ _;
      misses = record {
        missed = λ refusal e h. h;
        refused = λ told steady refusal.
            let is = (before.sound.known told).end known.0 known.1 steady in
            (is.well, moved-past c.args.target (length (armored_content before).bytes) (omega (arith, is.same, known.2)));
        named = λ told well own. absurd (own tt);
      };
      spares = record { lines = λ told steady noting near. tt; outside = λ told steady is refusal. refl };
      stays = stays-none _ _ _ _ (c.is_at.ensures.no c.if-is_at.false);
      below = λ told steady plain. tt;
    }

-- ---- where it goes

pub returns-in-Err : goal.returns-in-Err
returns-in-Err g c =
    let now = c.in-Err.ensures in
    record {
      goes = goes-error armored_reader _ _ _ c.in-Err.e now.keeps;
      text = now.text;
      reaches = reaches-none _ _ _ _;
      misses = now.misses (Start c.args.target) (λ len past. past);
      spares = spares-own _ _ _ _ now.other;
      stays = stays-none _ _ _ _ (c.is_at.ensures.no c.if-is_at.false);
      below = λ told steady plain. tt;
    }

pub returns : goal.returns
returns g c =
    let before = c.args.self.now in
    let middle = c.find_form.new.self in
    let new = c.go_by_form.new.self in
    let target = c.args.target in
    let result = c.go_by_form.result in
    let first = c.in-Ok.ensures in
    let same = first.keeps.same in
    let last = c.go_by_form.ensures in
    let next = goes-to-later g.R.Seek.seek_refuses before middle new target result first.keeps first.text last.goes in
    record {
      goes = next.goes;
      text = next.text;
      reaches = next.reaches;
      misses = next.misses;
      spares = record {
        lines = λ told steady noting near. elim first.finds [
          | inl is ↦ subst (λ r. OnOk result (new.source.lines ≤ r.source.lines + 1024)) is
              (last.lines (same.tells ∙ told) (same.steady ∙ steady) (subst (λ r. IsTrue r.marks.noting) (sym is) noting)
              (subst (λ r. target ≤ r.marks.furthest) (sym is) near))
          | inr unread ↦ absurd (omega (arith, unread.0.1, unread.1, near))
        ];
        outside = λ told steady known. IfErr-weaker result _ _ (λ e refused refusal.
            let some = some_length before.marks.length known in
            let is = (before.sound.known told).end some.0 some.1 steady in
            absurd (omega (
              arith,
              past-moved target (length (armored_content before).bytes) e
                  (refused refusal).1,
              is.same,
              c.ends_before.ensures.no c.if-ends_before.false some.0 some.1,
            )))
            (next.misses.refused told steady);
      };
      stays = record {
        still = λ good begun at. absurd (c.is_at.ensures.no c.if-is_at.false good begun at);
        unmoved = λ told steady good at. elim (cases_Bool (is_start before.stage)) [
          | inl start ↦
              let zero : target ≡ 0 = omega (arith, (before.sound.paced told good).first start, at) in
              elim first.finds [
                | inl is ↦ on_ok_weaker result (λ same. omega (arith, same, ap (λ r. r.source.lines) is)) (last.unread zero)
                | inr unread ↦ absurd (omega (arith, unread.1, zero))
              ]
          | inr begun ↦ absurd (c.is_at.ensures.no c.if-is_at.false good begun at)
        ];
      };
      below = λ told steady plain. IfOk-weaker result _ _ (λ n lands. inr lands)
          (last.lands (same.tells ∙ told) (same.steady ∙ steady) (ap (λ t. begins_armor t.bytes) (first.text.same_text told) ∙ plain)
          (λ start. elim (cases_lt 0 target) [
            | inl some ↦ absurd (true≢false (sym start ∙ first.known told steady plain some))
            | inr none ↦ omega (arith, none)
          ]));
    }
