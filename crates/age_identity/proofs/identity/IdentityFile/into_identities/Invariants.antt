use Rattle.std.proofs.Common.{◌≡◌, map, take}
use Rattle.age_identity.specs.Entries.{entry_of}
use Rattle.age_identity.specs.Converting.{native_secrets}
use Rattle.age_identity.proofs.identity.IdentityFile.into_identities.Given as goal

abbrev pub invariant-loop-entry : goal.invariant-loop-entry
invariant-loop-entry g l = l.identities.items ≡ native_secrets (map (λ e. entry_of e) (take l.entry-index l.entries))
