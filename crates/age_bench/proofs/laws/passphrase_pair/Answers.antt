use Rattle.std.proofs.Common.{sym, subst}
use Rattle.age_bench.specs.declared.names.With.TheVariants.{Passphrase}
use Rattle.age_bench.proofs.NamedPairs.{IsPaired, passphrase_paired}
use Rattle.age_bench.proofs.laws.passphrase_pair.Goals as goal

pub returns-in-Passphrase : goal.returns-in-Passphrase
returns-in-Passphrase c =
    subst (λ t. IsPaired t (Passphrase c.args.identity.now)) (sym c.in-Passphrase.is)
    (passphrase_paired c.in-Passphrase.recipient c.args.identity.now c.scrypt_pair.ensures)
