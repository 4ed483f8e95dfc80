use Rattle.std.proofs.Common.{rules, ◌≡◌, ◌∙◌, Ok, sym, Some, None, SFits, to_z, of_z, to_z-of_z, w64, ap, subst}
use Rattle.std.proofs.lemmas.Result.{on_ok_weaker}
use Rattle.age_io.specs.Cursor.{place_at}
use Rattle.age_v1.specs.DeliveredArmor.{text_delivers}
use Rattle.age_armor.proofs.Pacing.{shown_begun}
use Rattle.age_armor.proofs.Keeping.{reached}
use Rattle.age_armor.specs.Windows.{held_in}
use Rattle.age_armor.proofs.seeking.ArmoredReaderSeek.seek.Goals as goal

pub returns-in-Start : goal.returns-in-Start
returns-in-Start g c =
    let before = c.args.self.now in
    let after = c.seek_to.new.self in
    let now = c.seek_to.ensures in
    record {
      seeks = rw c.in-Start.is now.seeks.seeks;
      besides = record {
        fails = record { patient = now.seeks.patient; good = now.seeks.good; unmoved = now.seeks.unmoved; fails = now.seeks.fails };
        refuses = record {
          named = rw c.in-Start.is now.seeks.named;
          well = λ told steady asked. absurd (rw c.in-Start.is at asked);
          early = rw c.in-Start.is now.seeks.early;
          at_once = λ told early. absurd (rw c.in-Start.is at early);
        };
        text = record {
          same_text = now.text.same_text;
          whole = λ told. ap (λ t. text_delivers t.bytes t.ends_well) (now.text.same_text told);
          ending = λ told steady later good. now.ending told steady good;
        };
        counts = record {
          counts = now.text.counts;
          marks = λ told steady noting near. now.takes.lines told steady noting (rw c.in-Start.is at near);
          outside = now.takes.outside;
          bare = now.text.bare;
        };
        learns = record {
          learns = now.text.learns;
          knows = λ asked. absurd (rw c.in-Start.is at asked);
          reaches = λ told. on_ok_weaker c.seek_to.result (λ good. reached after (now.seeks.seeks.same_tells ∙ told) good) now.seeks.good;
        };
        lands = record {
          still = λ told some here.
              let holds = shown_begun before.failed (held_in before.window) before.stage before.sound.fresh some in
              let at = rw c.in-Start.is at here in
              let still = now.still holds.0 holds.1 (sym at) in
              (still.0 ∙ ap Ok at, still.1);
          below = now.below;
        };
      };
    }

pub returns-in-End : goal.returns-in-End
returns-in-End g c =
    let after = c.seek_from_end.new.self in
    let now = c.seek_from_end.ensures in
    let fits : SFits w64 c.in-End.distance = search rules in
    let same : to_z w64 (of_z w64 c.in-End.distance) ≡ c.in-End.distance = to_z-of_z {w = w64} fits in
    record {
      seeks = rw (c.in-End.is, ← same) now.seeks.seeks;
      besides = record {
        fails = record { patient = now.seeks.patient; good = now.seeks.good; unmoved = now.seeks.unmoved; fails = now.seeks.fails };
        refuses = record {
          named = rw c.in-End.is now.seeks.named;
          well = λ told steady asked. now.finds.well told steady;
          early = rw c.in-End.is now.seeks.early;
          at_once = λ told early. absurd (rw c.in-End.is at early);
        };
        text = record {
          same_text = now.text.same_text;
          whole = λ told. ap (λ t. text_delivers t.bytes t.ends_well) (now.text.same_text told);
          ending = λ told steady later good. now.ending told steady good;
        };
        counts = record {
          counts = now.text.counts;
          marks = λ told steady noting near. now.takes.lines told steady noting (rw c.in-End.is at near);
          outside = now.takes.outside;
          bare = now.text.bare;
        };
        learns = record {
          learns = now.text.learns;
          knows = λ asked. now.finds.knows;
          reaches = λ told. on_ok_weaker c.seek_from_end.result (λ good. reached after (now.seeks.seeks.same_tells ∙ told) good) now.seeks.good;
        };
        lands = record {
          still = λ told some here. absurd (rw c.in-End.is at here);
          below = now.below;
        };
      };
    }

pub returns-in-Current : goal.returns-in-Current
returns-in-Current g c =
    let before = c.args.self.now in
    let after = c.seek_by.new.self in
    let now = c.seek_by.ensures in
    let fits : SFits w64 c.in-Current.distance = search rules in
    let same : to_z w64 (of_z w64 c.in-Current.distance) ≡ c.in-Current.distance = to_z-of_z {w = w64} fits in
    record {
      seeks = rw (c.in-Current.is, ← same) now.seeks.seeks;
      besides = record {
        fails = record { patient = now.seeks.patient; good = now.seeks.good; unmoved = now.seeks.unmoved; fails = now.seeks.fails };
        refuses = record {
          named = rw (c.in-Current.is, ← same) now.seeks.named;
          well = λ told steady asked. absurd (rw c.in-Current.is at asked);
          early = rw (c.in-Current.is, ← same) now.seeks.early;
          at_once = rw (c.in-Current.is, ← same) now.at_once;
        };
        text = record {
          same_text = now.text.same_text;
          whole = λ told. ap (λ t. text_delivers t.bytes t.ends_well) (now.text.same_text told);
          ending = λ told steady later good. now.ending
              (subst (λ d. place_at before.place d ≡ None → ⊥) (sym same) (rw c.in-Current.is at later)) told steady good;
        };
        counts = record {
          counts = now.text.counts;
          marks = λ told steady noting near.
              let near_by = rw c.in-Current.is at near in
              now.takes.lines told steady noting (λ n is. near_by n (subst (λ d. place_at before.place d ≡ Some n) same is));
          outside = now.takes.outside;
          bare = now.text.bare;
        };
        learns = record {
          learns = now.text.learns;
          knows = λ asked. absurd (rw c.in-Current.is at asked);
          reaches = λ told. on_ok_weaker c.seek_by.result (λ good. reached after (now.seeks.seeks.same_tells ∙ told) good) now.seeks.good;
        };
        lands = record {
          still = λ told some here.
              let holds = shown_begun before.failed (held_in before.window) before.stage before.sound.fresh some in
              now.still told holds.0 holds.1 (subst (λ d. place_at before.place d ≡ Some before.place) (sym same) (rw c.in-Current.is at here));
          below = now.below;
        };
      };
    }
