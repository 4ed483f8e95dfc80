use Rattle.std.proofs.Common.{◌∙◌, ap}
use Rattle.age_identity.specs.Entries.{entry_of}
use Rattle.age_identity.proofs.Named.{plugin_first, native_names, name_found}
use Rattle.age_identity.proofs.identity.first_plugin.Goals as goal

pub returns-in-Plugin : goal.returns-in-Plugin
returns-in-Plugin g c =
    name_found _ _ c.in-Plugin.key.name c.plugin.result.now c.plugin.ensures
    (plugin_first c.args.entries.now c.loop-entry.entry-index c.entry-item.result c.loop-entry-test.true c.entry-item.is c.in-Plugin.key
    (ap (λ e. entry_of e) c.in-Plugin.is) c.loop-entry.invariant)

pub loop-entry-preserved : goal.loop-entry-preserved
loop-entry-preserved g c =
    native_names c.args.entries.now c.loop-entry.entry-index c.entry-item.result c.loop-entry-test.true c.entry-item.is c.in_default.field-0
    (ap (λ e. entry_of e) c.in_default.is) ∙ c.loop-entry.invariant
