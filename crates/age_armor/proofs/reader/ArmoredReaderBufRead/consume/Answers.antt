use Rattle.std.proofs.Common.{◌≤◌, arith, length, take, refl, ◌∙◌, ap}
use Rattle.age_armor.specs.Ahead.{shown_ahead}
use Rattle.age_armor.specs.Windows.{held_in}
use Rattle.age_armor.proofs.Ahead.{gives_shown, shown_fits, shown_gone, length_shown, shown_further, ending_same}
use Rattle.age_armor.proofs.Invariants.{sound-given}
use Rattle.age_armor.proofs.Windows.{held_few}
use Rattle.age_armor.proofs.reader.ArmoredReaderBufRead.consume.Goals as goal

pub pass-requires : goal.pass-requires
pass-requires g c = let before = c.args.self.now in shown_fits before.failed (held_in before.window) c.args.amount c.requires

pub invariant_of-self : goal.invariant_of-self
invariant_of-self g c =
    let before = c.args.self.now in
    let held = held_in before.window in
    let n = c.args.amount in
    let fits : n ≤ length held = shown_fits before.failed held n c.requires in
    record {
      sound = sound-given before n c.saturating_add-self.result (take n (shown_ahead before.failed held)) (held_in c.pass.new.self) fits
          (length_shown before.failed held n c.requires) c.pass.ensures
          (gives_shown before.failed held n before.stage (g.R.Read.rest before.source.inner) c.requires)
          (λ told. omega (arith, c.saturating_add-self.ensures, before.sound.fits told, held_few before.window, fits))
          (λ gone. shown_gone before.failed held n gone c.requires) (g.met.R.Read.place_fits before.source.inner);
    }

pub returns : goal.returns
returns g c =
    let before = c.args.self.now in
    let held = held_in before.window in
    let n = c.args.amount in
    let fits : n ≤ length held = shown_fits before.failed held n c.requires in
    record {
      consumes = record {
        same_tells = refl;
        same_steady = refl;
        same_faults = refl;
        narrows = λ e h. h;
        shows = ap (shown_ahead before.failed) c.pass.ensures ∙ shown_further before.failed held n;
        same_content = λ told. refl;
        bytes = λ told. rw c.pass.ensures (gives_shown before.failed held n before.stage (g.R.Read.rest before.source.inner) c.requires);
        moves = λ told. omega (arith, c.saturating_add-self.ensures, before.sound.fits told, held_few before.window, fits);
      };
      same = record {
        failed = refl;
        ending = ending_same held (held_in c.pass.new.self) before.stage (g.R.Read.rest before.source.inner);
        whole = refl;
        same_text = refl;
        form = refl;
        marks = refl;
        lines = refl;
      };
    }
