use Rattle.age_claims.proofs.Lengthened.{no_longer}
use Rattle.age_claims.proofs.longer.no_longer_file.Goals as goal

pub returns : goal.returns
returns g c = no_longer c.header_text_reads_back.ensures c.verdict_is_unique.ensures g.S.Suite.seal_of c.payload_laws.ensures.length
