-- The laws of the suite, from those of its primitives.
use Rattle.age_suite.specs.Suite.{IsCipher, IsAgreement, IsStretching}
use Rattle.chacha20poly1305.specs.Aead.{opened, seal_of}
use Rattle.chacha20poly1305.proofs.Seals as aead
use Rattle.curve25519.specs.X25519.{public_key, x25519}
use Rattle.curve25519.proofs.KeyAgreement as agreement
use Rattle.scrypt.specs.Scrypt.{accepts, scrypt_of}
use Rattle.scrypt.proofs.Lengths.{length-scrypt_of, scrypt_of-bytes}

pub standard_cipher : IsCipher seal_of opened
standard_cipher = record {
  opens_exactly = λ key nonce sealed plain k n s. aead.opens_exactly key nonce sealed plain s;
  seal_is_longer = λ key nonce plain k n p. record { len = aead.length-seal key nonce plain; bytes = aead.seal-bytes key nonce plain p };
}

pub standard_agreement : IsAgreement x25519 public_key
standard_agreement = record {
  alike = λ a b p q. agreement.same_secret a b p.len p.bytes q.len q.bytes;
  public_is_bytes = λ a p. record { len = agreement.length-public_key a; bytes = agreement.public_key-bytes a };
  shared_is_bytes = λ a b p q. record { len = agreement.length-x25519 a b; bytes = agreement.x25519-bytes a b };
}

pub standard_stretching : IsStretching scrypt_of accepts
standard_stretching passphrase salt factor p s f accepted =
    record { len = length-scrypt_of passphrase salt factor; bytes = scrypt_of-bytes passphrase salt factor }
