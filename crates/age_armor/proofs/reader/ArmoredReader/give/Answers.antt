use Rattle.std.proofs.Common.{◌≡◌, ◌∙◌, ◌+◌, ◌≤◌, ap, arith, take, length, length-drop, length-take-le, sym, IsTrue, refl}
use Rattle.std.proofs.lemmas.Bool.{true≢false}
use Rattle.std.proofs.lemmas.Grind.{common_steps}
use Rattle.age_armor.specs.Ahead.{shown_ahead}
use Rattle.age_armor.specs.Windows.{held_in}
use Rattle.age_armor.proofs.Ahead.{gives_front, shown_further, ending_same}
use Rattle.age_armor.proofs.Invariants.{sound-given}
use Rattle.age_armor.proofs.reader.ArmoredReader.give.Goals as goal

pub invariant_of-self : goal.invariant_of-self
invariant_of-self g c =
    let before = c.args.self.now in
    let held = held_in before.window in
    let n = c.give-count.result in
    let fits : n ≤ length held = grind (arith, common_steps) in
    record {
      sound = sound-given before n c.saturating_add-self.result (take n held) (held_in c.give-count.new.self) fits
          (sym (length-take-le n held fits)) c.give-count.ensures.left
          (gives_front before.failed held (take n held) n before.stage (g.R.Read.rest before.source.inner) c.requires refl)
          (λ told. omega (
            arith,
            c.saturating_add-self.ensures,
            before.sound.counted told c.requires,
            before.source.behind
                told,
            g.met.R.Read.place_fits before.source.inner told,
            fits,
          ))
          (λ gone. absurd (true≢false (sym gone ∙ c.requires))) (g.met.R.Read.place_fits before.source.inner);
    }

pub returns : goal.returns
returns g c =
    let before = c.args.self.now in
    let held = held_in before.window in
    let n = c.give-count.result in
    let rest = g.R.Read.rest before.source.inner in
    let fits : n ≤ length held = grind (arith, common_steps) in
    let moves : (IsTrue (g.R.Read.tells before.source.inner) → c.saturating_add-self.result ≡ before.place + n) = λ told.
    omega (
      arith,
      c.saturating_add-self.ensures,
      before.sound.counted told c.requires,
      before.source.behind told,
      g.met.R.Read.place_fits
          before.source.inner told,
      fits,
    ) in
    record {
      count = c.give-count.ensures.count;
      reads = record {
        source = refl;
        preceding = refl;
        stage = refl;
        marks = refl;
        fresh = c.requires;
        ending = ending_same held (held_in c.give-count.new.self) before.stage rest;
      };
      shown = ap (shown_ahead before.failed) c.give-count.ensures.left ∙ shown_further before.failed held n;
      bytes = rw c.give-count.ensures.left (gives_front before.failed held _ n before.stage rest c.requires c.give-count.ensures.bytes);
      beyond = c.give-count.ensures.beyond;
      moves = moves;
      sum = λ told. omega (arith, moves told, fits, ap length c.give-count.ensures.left, length-drop n held);
    }
