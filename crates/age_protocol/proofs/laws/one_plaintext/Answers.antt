use Rattle.age_protocol.proofs.OneFile.{one_header, one_plain}
use Rattle.age_protocol.proofs.laws.one_plaintext.Goals as goal

pub returns-clause-header : goal.returns-clause-header
returns-clause-header g c = one_header c.header_text_reads_back.ensures c.verdict_is_unique.ensures g.S.Suite.seal_of

pub returns-clause-plaintext : goal.returns-clause-plaintext
returns-clause-plaintext g c =
    one_plain c.header_text_reads_back.ensures c.verdict_is_unique.ensures g.S.Suite.seal_of c.mac_laws.ensures.key_bytes
    c.payload_laws.ensures.one_plaintext
