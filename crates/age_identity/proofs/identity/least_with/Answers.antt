use Rattle.std.proofs.Common.{ap}
use Rattle.age_identity.specs.Entries.{entry_of}
use Rattle.age_identity.proofs.Named.{least_one, least_more, one_name}
use Rattle.age_identity.proofs.identity.least_with.Goals as goal

pub returns-in-None : goal.returns-in-None
returns-in-None g c = λ names h.
    least_one c.plugin.result.now names _ (rw c.in-None.is at h)
    (one_name names c.plugin.result.now (entry_of c.args.entry.now) c.in-Plugin.key (ap (λ e. entry_of e) c.in-Plugin.is) c.plugin.ensures)

pub returns-in-Some : goal.returns-in-Some
returns-in-Some g c = λ names h.
    least_more c.lesser.result.now c.in-Some.name.now c.plugin-in-Some.result.now names _ (rw c.in-Some.is at h)
    (one_name names c.plugin-in-Some.result.now (entry_of c.args.entry.now) c.in-Plugin.key
    (ap (λ e. entry_of e) c.in-Plugin.is) c.plugin-in-Some.ensures)
    c.lesser.ensures.first c.lesser.ensures.second c.lesser.ensures.one
