use Rattle.age_protocol.proofs.Belonging.{hold_answers, one_decrypts, any_decrypts}
use Rattle.age_protocol.proofs.laws.several_recipients.Goals as goal

pub returns-clause-stanzas : goal.returns-clause-stanzas
returns-clause-stanzas g c = hold_answers g.T.Recipient.wraps

pub returns-clause-one : goal.returns-clause-one
returns-clause-one g c = one_decrypts g.I.Identity.unwraps g.S.Suite.seal_of

pub returns-clause-any : goal.returns-clause-any
returns-clause-any g c = any_decrypts g.T.Recipient.wraps g.I.Identity.unwraps g.S.Suite.seal_of
