use Rattle.std.proofs.Common.{[]}
use Rattle.poly1305.proofs.authenticator.poly1305_mac.Goals as goal

pub returns : goal.returns
returns c = c.finalize.ensures c.args.key.now c.args.text.now (c.update.ensures c.args.key.now [] c.new-state.ensures)
