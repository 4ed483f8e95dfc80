use Rattle.std.proofs.Common.{ℕ, ◌∙◌, arith, length, refl, ap, sym, subst, inl}
use Rattle.std.proofs.lemmas.Bool.{true≢false}
use Rattle.age_error.specs.declared.io.Error.TheVariants.{Failed}
use Rattle.age_io.proofs.Keeping.{same-self}
use Rattle.age_armor.specs.Reader.{armored_reader}
use Rattle.age_io.specs.Filling.{IsFront}
use Rattle.age_armor.proofs.Ahead.{fault_gone}
use Rattle.age_armor.proofs.Keeping.{fills-failed, goes-refused, form-found, fails-passed, ends-passed, good-done, learned, armor-plain, held_shown}
use Rattle.age_armor.proofs.Pacing.{learns_none}
use Rattle.age_v1.specs.DeliveredArmor.{text_delivers}
use Rattle.std.proofs.lemmas.List.{nil_from_length}
use Rattle.age_armor.specs.Windows.{held_in}
use Rattle.age_armor.proofs.reader.ArmoredReaderBufRead.fill_buf.Goals as goal

pub returns-then-self : goal.returns-then-self
returns-then-self g c =
    let before = c.args.self.now in
    let failed = c.if-self.true in (
      (
        refl,
        λ r. tt,
        fills-failed before before Failed
            (goes-refused armored_reader {T = ℕ} _ before before before Failed (same-self _ before) (same-self _ before) (λ device. device)
            (inl (failed, refl))) refl failed
            (λ told other quiet. fault_gone before.failed (held_in before.window) before.stage (g.R.Read.rest before.source.inner) failed) (
            record {
              text = record {
                ending = record { same = λ told. tt; named = λ told good. absurd (true≢false (sym failed ∙ good)) };
                says = λ told good. absurd (true≢false (sym failed ∙ good));
                whole = λ told. refl;
                same_text = λ told. refl;
              };
              form = λ told steady. tt;
              learns = record {
                more = learns_none _ _ refl;
                reaches = λ told. tt;
                lines = (omega arith, omega arith);
                bare = λ told steady plain. refl;
                exact = λ told armored. tt;
              };
              knows = tt;
              good = record { failed = λ had. refl; fails = failed; good = tt; patient = λ again. again };
            }
            ),
      ),
      record { front = λ told. tt; end = λ told. tt; after = tt },
    )

pub returns-in-Err : goal.returns-in-Err
returns-in-Err g c =
    let now = c.in-Err.ensures in (
      (
        refl,
        λ r. tt,
        fills-failed c.args.self.now c.hold.new.self c.in-Err.e now.goes now.holds.place now.good.fails now.cause (
            record {
              text = record {
                ending = ends-passed _ _ _ _ _ _ c.in-Err.e now.ending;
                says = λ told good. now.why told;
                whole = λ told. ap (λ t. text_delivers t.bytes t.ends_well) (now.text.same_text told);
                same_text = now.text.same_text;
              };
              form = λ told steady. tt;
              learns = record {
                more = now.text.learns;
                reaches = λ told. tt;
                lines = (now.text.counts, now.lines);
                bare = now.text.bare;
                exact = λ told armored. tt;
              };
              knows = tt;
              good = fails-passed _ _ c.in-Err.e now.good;
            }
            ),
      ),
      record { front = λ told. tt; end = λ told. tt; after = tt },
    )

pub returns-in-Ok : goal.returns-in-Ok
returns-in-Ok g c =
    let before = c.args.self.now in
    let now = c.in-Ok.ensures in
    let after = c.hold.new.self in
    let held = c.as_held.ensures in
    let form = form-found before after now.goes.keeps.same now.text now.holds.begun in (
      (
        refl,
        λ r. tt,
        record {
          same_tells = now.goes.keeps.same.tells;
          same_steady = now.goes.keeps.same.steady;
          no_fewer_faults = now.goes.keeps.same.faults;
          device = tt;
          unspent = now.goes.unspent;
          why = tt;
          narrows = armor-plain c.args.self.now after now.goes.keeps.narrows;
          again = tt;
          shows = held.shown;
          own = record {
            text = record {
              ending = record { same = now.ending.same; named = λ told good. tt };
              says = λ told good. tt;
              whole = λ told. ap (λ t. text_delivers t.bytes t.ends_well) (now.text.same_text told);
              same_text = now.text.same_text;
            };
            form = form;
            learns = learned before after now.goes.keeps.same now.text now.lines now.good.good (λ told. now.holds.line);
            knows = λ none. now.holds.knows (nil_from_length (held_in after.window) (omega (arith, ap length none, held_shown after now.good.good)));
            good = good-done _ _ c.if-self.false now.good.good;
          };
          same_content = now.goes.keeps.same.content;
          stays = λ told. now.holds.place;
          same_rest = now.holds.rest;
          left = λ told. tt;
          interrupted = λ told. tt;
          cause = λ told. tt;
        },
      ),
      record {
        front = λ told. subst (λ s. IsFront c.as_held.result.now s) (now.holds.rest told) held.front;
        end = λ told none. now.holds.end told (held.none none);
        after = tt;
      },
    )
