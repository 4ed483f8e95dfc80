use Rattle.std.proofs.Common.{inl, inr, refl}
use Rattle.age.specs.IdentityFile.{entries_of}
use Rattle.sazh_core.proofs.OfPlugins.{plugin_named}
use Rattle.sazh_core.proofs.own_recipients.recipients_in_entries.Goals as goal

pub returns-in-Err-PluginResolve : goal.returns-in-Err-PluginResolve
returns-in-Err-PluginResolve g c =
    inr (inl (
      refl,
      plugin_named (entries_of c.args.found) c.in-Err-PluginResolve.field-0-0
          (rw c.in-Err-PluginResolve.field-0-is at c.in-Err-PluginResolve.ensures.refused),
    ))
