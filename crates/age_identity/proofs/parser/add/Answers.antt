use Rattle.std.proofs.Common.{subst, sym, ◌++◌, ◌∷◌, []}
use Rattle.age_identity.specs.Entries.{AreEntries, entry_of}
use Rattle.age_identity.proofs.Judged.{entries_passed, entries_found}
use Rattle.age_identity.proofs.Steps.{mapped_more}
use Rattle.age_identity.proofs.parser.add.Goals as goal

pub returns-in-Passed : goal.returns-in-Passed
returns-in-Passed g c = λ before line good judged. entries_passed before line _ good (rw c.in-Passed.is at judged)

pub returns-in_ok-push-in-Found : goal.returns-in_ok-push-in-Found
returns-in_ok-push-in-Found g c = λ before line good judged.
    subst (AreEntries (before ++ line ∷ []))
    (sym (mapped_more c.args.entries.items c.push.new.self.items c.in-Found.entry c.in_ok-push-in-Found.ensures.items))
    (entries_found before line _ (entry_of c.in-Found.entry) good (rw c.in-Found.is at judged))
