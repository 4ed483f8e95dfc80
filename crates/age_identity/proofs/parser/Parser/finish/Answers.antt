use Rattle.std.proofs.Common.{◌≡◌, ◌⊎◌, ◌+◌, ◌++◌, ◌∷◌, [], arith, inl, inr, map}
use Rattle.std.specs.Str.Lines.{lines}
use Rattle.age_error.specs.declared.io.Error.TheVariants.{OutOfMemory, NotIdentity}
use Rattle.age_identity.specs.Entries.{AreEntries, IsBadLine, entry_of}
use Rattle.age_identity.specs.Progress.{RefusesLastLine}
use Rattle.age_identity.proofs.Steps.{all_lines, bad_last, few_lines, match_weaker}
use Rattle.age_identity.proofs.parser.Parser.finish.Goals as goal

pub returns-in-Ok : goal.returns-in-Ok
returns-in-Ok g c = λ text short here.
    let few = few_lines c.args.self text short here in
    let number = c.saturating_add-number.result in
    let next : number ≡ c.args.self.finished + 1 = omega (arith, few, c.saturating_add-number.ensures) in
    let some = (c.is_empty.ensures here.last here.kept).1 c.if-is_empty.false in
    match_weaker c.add.result
    (λ more. AreEntries (lines here.done ++ here.last ∷ []) (map (λ e. entry_of e) more.items))
    (λ more. AreEntries (lines text) (map (λ e. entry_of e) more.items))
    (λ e. (e ≡ OutOfMemory) ⊎ ((e ≡ NotIdentity number) × IsBadLine here.last))
    (λ e. RefusesLastLine e text)
    (λ more good. all_lines c.args.self text (map (λ e. entry_of e) more.items) here some good)
    (λ e refused. elim refused [ inl memory ↦ inl memory | inr bad ↦ inr (number, bad.0, bad_last c.args.self number text here some next bad.1) ])
    (c.add.ensures (lines here.done) here.last here.good (c.in-Ok.ensures here.last here.kept))
