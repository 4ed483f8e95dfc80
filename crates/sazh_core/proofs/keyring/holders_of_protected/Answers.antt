use Rattle.std.proofs.Common.{refl}
use Rattle.sazh_core.proofs.KeyFiles.{match_weaker}
use Rattle.sazh_core.proofs.keyring.holders_of_protected.Goals as goal

pub returns-in-Some : goal.returns-in-Some
returns-in-Some g c =
    rw c.in-Some.is
    (match_weaker c.holders_under_passphrase.result c.holders_under_passphrase.ensures (λ holders held. (c.in-Some.text.now, refl, held))
    (λ e refused. refused))
