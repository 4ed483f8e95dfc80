use Rattle.std.proofs.Common.{ℕ, ◌≡◌, ◌∙◌, arith, refl, ap, sym, inl, length}
use Rattle.std.proofs.lemmas.Bool.{true≢false, eqb-true, eqb-false}
use Rattle.age_error.specs.declared.io.Error.TheVariants.{Failed}
use Rattle.age_io.proofs.Keeping.{keeps-done, same-self}
use Rattle.age_v1.specs.DeliveredArmor.{text_delivers}
use Rattle.age_armor.specs.Reader.{armored_reader}
use Rattle.age_armor.proofs.Ahead.{fault_gone, shown_small}
use Rattle.age_armor.proofs.Keeping.{text-still, reads-done, reads-failed, learned, goes-refused}
use Rattle.age_armor.proofs.Pacing.{learns_none}
use Rattle.age_armor.proofs.Windows.{held_few}
use Rattle.age_armor.specs.Windows.{held_in}
use Rattle.age_armor.proofs.reader.ArmoredReaderRead.read.Goals as goal

pub returns-then-self : goal.returns-then-self
returns-then-self g c =
    let before = c.args.self.now in
    let gone = c.if-self.true in
    record {
      reads = reads-failed before before _ Failed
          (goes-refused armored_reader {T = ℕ} _ before before before Failed (same-self _ before) (same-self _ before) (λ device. device)
          (inl (gone, refl)))
          refl gone (λ told other quiet. fault_gone before.failed (held_in before.window) before.stage (g.R.Read.rest before.source.inner) gone);
      besides = record {
        gives = record {
          held = λ some. tt;
          line = λ armored. tt;
          beyond = λ armored. tt;
          untouched = λ armored. refl;
          form = λ some told steady. tt;
          spared = λ told steady armor. refl;
        };
        text = record {
          ending = record { same = λ told. tt; named = λ told good. absurd (true≢false (sym gone ∙ good)) };
          says = λ told good. absurd (true≢false (sym gone ∙ good));
          whole = λ told. refl;
          same_text = λ told. refl;
        };
        learns = record {
          more = learns_none _ _ refl;
          reaches = λ told. tt;
          lines = (omega arith, omega arith);
          bare = λ told steady plain. refl;
          exact = λ told armored. tt;
        };
        knows = λ some. tt;
        good = record { failed = λ had. refl; fails = gone; good = tt; patient = λ again. again };
        failed = λ had. (refl, refl);
        empty = λ good none. absurd (true≢false (sym gone ∙ good));
      };
    }

pub returns-then-is_empty : goal.returns-then-is_empty
returns-then-is_empty g c =
    let before = c.args.self.now in
    let good = c.if-self.false in
    let none : length c.args.buf.now ≡ 0 = eqb-true (length c.args.buf.now) 0 (sym c.is_empty.ensures ∙ c.if-is_empty.true) in
    record {
      reads = reads-done before before _ 0 (keeps-done _ _ _ _ (same-self armored_reader before) (λ e h. h))
          (λ some. absurd (omega (arith, none, some))) (omega arith)
          (λ told. record { bytes = refl; end = refl }) (λ told. omega arith) (λ told zero some. absurd (omega (arith, none, some)));
      besides = record {
        gives = record {
          held = λ some. omega arith;
          line = λ armored. omega (arith, shown_small before.failed (held_in before.window) (held_few before.window));
          beyond = λ armored. refl;
          untouched = λ armored. tt;
          form = λ some. absurd (omega (arith, none, some));
          spared = λ told steady armor. tt;
        };
        text = record {
          ending = record { same = λ told. refl; named = λ told fine. tt };
          says = λ told fine. tt;
          whole = λ told. refl;
          same_text = λ told. refl;
        };
        learns = learned before before (same-self armored_reader before) (text-still _ _ refl refl refl) (omega arith) good
            (λ told armored. record { held = λ some. refl; next = λ none more. absurd (omega (arith, ap length none, more)) });
        knows = λ some. absurd (omega (arith, none, some));
        good = record { failed = λ had. absurd (true≢false (sym had ∙ good)); fails = tt; good = good; patient = tt };
        failed = λ had. absurd (true≢false (sym had ∙ good));
        empty = λ fine empty. (refl, refl);
      };
    }

pub returns : goal.returns
returns g c =
    let now = c.read_on.ensures in
    record {
      reads = now.reads;
      besides = record {
        gives = now.gives;
        text = record {
          ending = now.ending;
          says = λ told good. now.why told;
          whole = λ told. ap (λ t. text_delivers t.bytes t.ends_well) (now.same_text told);
          same_text = now.same_text;
        };
        learns = now.learns;
        knows = λ some. now.knows;
        good = now.good;
        failed = λ gone. absurd (true≢false (sym gone ∙ c.if-self.false));
        empty = λ good none. absurd (eqb-false (length c.args.buf.now) 0 (sym c.is_empty.ensures ∙ c.if-is_empty.false) none);
      };
    }
