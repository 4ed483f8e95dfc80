use Rattle.std.specs.Prelude.{codes}
use Rattle.std.proofs.Common.{◌∙◌}
use Rattle.std.proofs.lemmas.Bool.{false≢true}
use Rattle.std.proofs.lemmas.Slice.Eq.{bytes_eq-Decides}
use Rattle.age_bench.proofs.Keys.{no_recipient}
use Rattle.age_bench.proofs.command.parse_to.Goals as goal

pub returns-in-Err : goal.returns-in-Err
returns-in-Err c =
    let word = c.args.word.now in
    no_recipient word _ _ (λ same. false≢true (c.if-eq.ensures ∙ (bytes_eq-Decides word (codes "bench")).1 same)) c.in_default.ensures
    c.in-Err.ensures
