use Rattle.curve25519.proofs.KeyAgreement.{same_secret, length-public_key, public_key-bytes, length-x25519, x25519-bytes}
use Rattle.curve25519.proofs.x25519_laws.Goals as goal

pub returns-clause-same_secret : goal.returns-clause-same_secret
returns-clause-same_secret c = same_secret

pub returns-clause-public_key_length : goal.returns-clause-public_key_length
returns-clause-public_key_length c = length-public_key

pub returns-clause-public_key_bytes : goal.returns-clause-public_key_bytes
returns-clause-public_key_bytes c = public_key-bytes

pub returns-clause-shared_secret_length : goal.returns-clause-shared_secret_length
returns-clause-shared_secret_length c = length-x25519

pub returns-clause-shared_secret_bytes : goal.returns-clause-shared_secret_bytes
returns-clause-shared_secret_bytes c = x25519-bytes
