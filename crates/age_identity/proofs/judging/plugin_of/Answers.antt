use Rattle.age_identity.proofs.NoPlugin.{no_plugin, other_message}
use Rattle.age_identity.proofs.judging.plugin_of.Goals as goal

pub returns-else-eq : goal.returns-else-eq
returns-else-eq c = no_plugin c.args.text.now c.in-Err.message.now c.in-Err.ensures (other_message c.in-Err.message.now c.if-eq.ensures)
