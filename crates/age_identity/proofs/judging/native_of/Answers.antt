use Rattle.age_keys.proofs.RefusedTexts.{refused}
use Rattle.age_identity.proofs.judging.native_of.Goals as goal

pub returns-in-Err : goal.returns-in-Err
returns-in-Err g c = refused _ _ c.args.text.now _ c.in-Err.ensures
