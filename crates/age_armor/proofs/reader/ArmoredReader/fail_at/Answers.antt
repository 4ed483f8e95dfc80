use Rattle.std.proofs.Common.{arith, refl}
use Rattle.age_io.proofs.Keeping.{same-self}
use Rattle.age_armor.proofs.Invariants.{sound-failed}
use Rattle.age_armor.specs.Windows.{held_in}
use Rattle.age_armor.proofs.Ahead.{rest_failed}
use Rattle.age_armor.proofs.reader.ArmoredReader.fail_at.Goals as goal

pub invariant_of-self : goal.invariant_of-self
invariant_of-self g c =
    let before = c.args.self.now in
    record {
      sound = sound-failed before before.source before.preceding c.args.place _ (same-self g.R.Read before.source.inner) (λ told. refl)
          (λ told steady. (before.sound.text told steady).behind) c.requires.fits c.requires.inside (omega arith);
    }

pub returns-clause-rest : goal.returns-clause-rest
returns-clause-rest g c =
    let before = c.args.self.now in
    rest_failed (held_in before.window) before.stage (g.R.Read.rest before.source.inner)
