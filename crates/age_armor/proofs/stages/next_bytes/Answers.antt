use Rattle.age_armor.proofs.Staging.{gives-asked, no_bytes}
use Rattle.age_armor.proofs.stages.next_bytes.Goals as goal

pub returns-in-Err-clause-gives : goal.returns-in-Err-clause-gives
returns-in-Err-clause-gives g c =
    gives-asked _ _ _ _ _ (λ told other quiet. no_bytes (g.R.Read.rest c.args.source.now.inner) c.in-Err.e
    (c.in-Err.ensures.cause told other quiet)) c.in-Err.ensures.why
