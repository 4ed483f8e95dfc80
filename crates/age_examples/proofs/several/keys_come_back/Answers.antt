use Rattle.age_examples.proofs.Coming.{always_back, no_other}
use Rattle.age_examples.proofs.several.keys_come_back.Goals as goal

pub returns-clause-always : goal.returns-clause-always
returns-clause-always g c = always_back g.T.Recipient.wraps g.I.Identity.unwraps c.several_recipients.ensures.stanzas

pub returns-clause-no_other : goal.returns-clause-no_other
returns-clause-no_other g c = no_other g.T.Recipient.wraps g.I.Identity.unwraps
