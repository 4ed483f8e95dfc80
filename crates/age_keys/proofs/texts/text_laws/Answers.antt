use Rattle.age_keys.proofs.ReadBack.{reads_identities, reads_recipients}
use Rattle.age_keys.proofs.texts.text_laws.Goals as goal

pub returns-clause-identity : goal.returns-clause-identity
returns-clause-identity c = reads_identities

pub returns-clause-recipient : goal.returns-clause-recipient
returns-clause-recipient c = reads_recipients
