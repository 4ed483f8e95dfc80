use Rattle.std.proofs.Common.{arith, refl}
use Rattle.age_armor.specs.WritingLemmas.{Took-holding}
use Rattle.age_armor.proofs.writer.ArmoredWriter.hold.Goals as goal

pub returns-clause-took : goal.returns-clause-took
returns-clause-took g c = λ told. let s = c.args.self.now in
    Took-holding g.W.Write.appended g.met.W.Write.appends_nothing s c.args.bytes.now _ (omega (arith, s.held.ok.0, c.requires.fits))
    c.in_ok-extend_from_slice.ensures.items refl
