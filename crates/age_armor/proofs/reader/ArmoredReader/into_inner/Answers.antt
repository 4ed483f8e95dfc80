use Rattle.std.proofs.Common.{◌-◌, arith}
use Rattle.age_armor.specs.Reader.{origin_of}
use Rattle.age_armor.proofs.Ahead.{length_held}
use Rattle.age_armor.proofs.Forms.{stands_in_text, binary_left}
use Rattle.age_armor.specs.Windows.{held_in}
use Rattle.age_armor.proofs.reader.ArmoredReader.into_inner.Goals as goal

pub returns-clause-stands : goal.returns-clause-stands
returns-clause-stands g c = λ told steady.
    let reader = g.R.Read in
    let source = c.args.self.source in
    stands_in_text (reader.content source.inner) (reader.rest source.inner) (reader.place source.inner) (origin_of c.args.self)
    (source.taken - c.args.self.preceding)
    (omega (arith, source.behind told, (c.args.self.sound.text told steady).behind))
    (g.met.R.Read.stands source.inner told steady)

pub returns-clause-behind : goal.returns-clause-behind
returns-clause-behind g c = λ told good.
    let self = c.args.self in
    omega (arith, length_held self.failed (held_in self.window) good, self.sound.counted told good)

pub returns-clause-binary : goal.returns-clause-binary
returns-clause-binary g c = λ good plain some.
    let self = c.args.self in
    binary_left self.failed (held_in self.window) (self.source.taken - self.preceding) self.stage (g.R.Read.rest self.source.inner) good
    (λ start. omega (arith, self.sound.untaken good start)) plain some
