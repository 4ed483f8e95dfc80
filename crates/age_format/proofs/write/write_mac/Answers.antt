use Rattle.std.proofs.Common.{◌∷◌, []}
use Rattle.std.proofs.lemmas.Result.{on_ok_weaker}
use Rattle.age_format.proofs.write.write_mac.Goals as goal

pub returns-clause-took : goal.returns-clause-took
returns-clause-took g c =
    let line_took = (rw c.as_slice.ensures at c.write_columns.ensures.took) in
    on_ok_weaker c.write_columns.result (λ last. g.met.T.Sink.joins _ _ _ (32 ∷ []) _ c.in_ok-take.ensures.took last) line_took
