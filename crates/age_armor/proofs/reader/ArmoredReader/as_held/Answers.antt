use Rattle.std.proofs.Common.{ap, length, sym, ◌∙◌}
use Rattle.std.proofs.lemmas.List.{nil_from_length}
use Rattle.age_armor.specs.Windows.{held_in}
use Rattle.age_armor.proofs.Ahead.{shown_held, front_held}
use Rattle.age_armor.proofs.reader.ArmoredReader.as_held.Goals as goal

pub returns-clause-shown : goal.returns-clause-shown
returns-clause-shown g c = let self = c.args.self.now in shown_held self.failed (held_in self.window) c.requires ∙ sym c.as_slice.ensures

pub returns-clause-front : goal.returns-clause-front
returns-clause-front g c =
    let self = c.args.self.now in
    rw c.as_slice.ensures (front_held self.failed (held_in self.window) self.stage (g.R.Read.rest self.source.inner) c.requires)

pub returns-clause-none : goal.returns-clause-none
returns-clause-none g c = λ none. nil_from_length (held_in c.args.self.now.window) (ap length (sym c.as_slice.ensures) ∙ none)
