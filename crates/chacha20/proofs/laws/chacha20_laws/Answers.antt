use Rattle.chacha20.proofs.Facts.{length-chacha20_block, chacha20_block-bytes, length-chacha20_encrypt, chacha20_encrypt-bytes, chacha20_encrypt_twice}
use Rattle.chacha20.proofs.laws.chacha20_laws.Goals as goal

pub returns-clause-block_length : goal.returns-clause-block_length
returns-clause-block_length c = length-chacha20_block

pub returns-clause-block_bytes : goal.returns-clause-block_bytes
returns-clause-block_bytes c = chacha20_block-bytes

pub returns-clause-length : goal.returns-clause-length
returns-clause-length c = length-chacha20_encrypt

pub returns-clause-bytes : goal.returns-clause-bytes
returns-clause-bytes c = chacha20_encrypt-bytes

pub returns-clause-twice : goal.returns-clause-twice
returns-clause-twice c = chacha20_encrypt_twice
