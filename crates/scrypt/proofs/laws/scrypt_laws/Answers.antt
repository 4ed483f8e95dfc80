use Rattle.scrypt.proofs.Lengths.{length-scrypt_of, scrypt_of-bytes}
use Rattle.scrypt.proofs.laws.scrypt_laws.Goals as goal

pub returns-clause-length : goal.returns-clause-length
returns-clause-length c = length-scrypt_of

pub returns-clause-bytes : goal.returns-clause-bytes
returns-clause-bytes c = scrypt_of-bytes
