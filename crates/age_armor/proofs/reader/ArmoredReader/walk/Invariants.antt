use Rattle.std.proofs.Common.{◌≡◌, ◌+◌, ◌-◌, ◌<◌, ◌≤◌, IsTrue, false, length}
use Rattle.age_armor.specs.PrivateCounting.{IsCounted}
use Rattle.age_armor.specs.Stages.{is_start}
use Rattle.age_io.specs.Stretch.{from_place}
use Rattle.age_io.specs.Reading.{AddsNoReason, TriedAgain, most_faults}
use Rattle.age_io.specs.Keeping.{SameReader}
use Rattle.age_armor.specs.Reader.{outcome_of, refuses_of, armored_reader, armored_content, armored_rest}
use Rattle.age_armor.specs.PrivateSteps.{KeepsText}
use Rattle.age_armor.specs.Windows.{held_in}
use Rattle.age_armor.proofs.reader.ArmoredReader.walk.Given as goal

abbrev pub invariant-reads : goal.invariant-reads
invariant-reads g l =
    let reader = g.R.Read in
    record {
      same : SameReader armored_reader l.fn.self l.self;
      narrows : AddsNoReason (TriedAgain refuses_of) l.fn.self l.self;
      unspent : reader.faults l.self.source.inner < most_faults;
      good : l.self.failed ≡ false;
      place : IsTrue (reader.tells l.fn.self.source.inner) → l.self.place + l.left ≡ l.target;
      rest : IsTrue (reader.tells l.fn.self.source.inner) →
          armored_rest l.fn.self ≡ from_place l.fn.self.place (armored_content l.fn.self) →
          armored_rest l.self ≡ from_place l.self.place (armored_content l.fn.self);
      ending : IsTrue (reader.tells l.fn.self.source.inner) → (outcome_of l.self).ending ≡ (outcome_of l.fn.self).ending;
      text : KeepsText l.fn.self l.self;
      left : l.left ≤ l.target - l.fn.self.place;
      begun : IsTrue (reader.tells l.fn.self.source.inner) → l.left < l.target - l.fn.self.place → is_start l.self.stage ≡ false;
      still : l.fn.self.place ≡ l.target → l.self ≡ l.fn.self;
      counted : IsTrue (reader.tells l.fn.self.source.inner) → IsTrue (reader.steady l.fn.self.source.inner) →
          armored_rest l.fn.self ≡ from_place l.fn.self.place (armored_content l.fn.self) → l.target ≤ length (armored_content l.fn.self).bytes →
          IsCounted l.self.stage l.fn.self.place l.fn.self.source.lines l.target l.self.place (length (held_in l.self.window)) l.self.source.lines;
    }

abbrev pub decreases-reads : goal.decreases-reads
decreases-reads g l = l.left
