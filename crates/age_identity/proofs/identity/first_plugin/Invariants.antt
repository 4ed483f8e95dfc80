use Rattle.std.proofs.Common.{◌≡◌, [], map, take}
use Rattle.age_identity.specs.Entries.{entry_of}
use Rattle.age_identity.specs.Converting.{plugin_names}
use Rattle.age_identity.proofs.identity.first_plugin.Given as goal

abbrev pub invariant-loop-entry : goal.invariant-loop-entry
invariant-loop-entry g l = plugin_names (map (λ e. entry_of e) (take l.entry-index l.entries)) ≡ []
