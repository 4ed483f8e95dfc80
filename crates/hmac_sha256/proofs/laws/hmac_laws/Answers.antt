use Rattle.std.proofs.Common.{refl}
use Rattle.hmac_sha256.specs.Hmac.{hmac_of}
use Rattle.hmac_sha256.specs.Hkdf.{hkdf_of}
use Rattle.hmac_sha256.proofs.Digests.{hmac_of-length, hmac_of-bytes, hkdf_of-length, hkdf_of-bytes}
use Rattle.hmac_sha256.proofs.laws.hmac_laws.Goals as goal

pub returns-clause-length : goal.returns-clause-length
returns-clause-length c = hmac_of-length

pub returns-clause-bytes : goal.returns-clause-bytes
returns-clause-bytes c = hmac_of-bytes

pub returns-clause-key_length : goal.returns-clause-key_length
returns-clause-key_length c = hkdf_of-length

pub returns-clause-key_bytes : goal.returns-clause-key_bytes
returns-clause-key_bytes c = hkdf_of-bytes

-- no key and 32 zero bytes fill up to one block
pub returns-clause-no_salt : goal.returns-clause-no_salt
unfolding hkdf_of hmac_of
returns-clause-no_salt c = λ info input. refl
