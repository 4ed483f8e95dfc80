use Rattle.age_identity.proofs.Named.{public_seen}
use Rattle.age_identity.proofs.identity.IdentityFile.to_recipients.Goals as goal

pub loop-entry-preserved : goal.loop-entry-preserved
loop-entry-preserved g c =
    public_seen _ c.loop-entry.entry-index c.entry-item.result c.loop-entry-test.true c.entry-item.is g.S.Suite.public_of _ _
    c.loop-entry.invariant c.in_ok-add_recipient.ensures
