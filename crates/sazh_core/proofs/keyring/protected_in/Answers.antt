use Rattle.std.proofs.Common.{ap}
use Rattle.std.specs.Prelude.{Some}
use Rattle.sazh_core.proofs.KeyFiles.{protected_found}
use Rattle.sazh_core.proofs.keyring.protected_in.Goals as goal

pub returns-in-Ok : goal.returns-in-Ok
returns-in-Ok g c = λ bytes reads.
    let (made, opens, is_made) = c.from_buffer.ensures in
    protected_found _ c.args.text _ bytes c.args.asked made _ c.from_buffer.result c.found_or_none.result reads opens (ap Some c.in-Ok.ensures.ok)
    is_made c.found_or_none.ensures
