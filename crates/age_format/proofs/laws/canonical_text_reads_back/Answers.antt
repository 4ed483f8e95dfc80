use Rattle.age_v1.specs.Header.{header_text}
use Rattle.age_v1.proofs.CoveredText.{covered_canonical}
use Rattle.age_v1.proofs.Headers.{canonical_header}
use Rattle.age_v1.proofs.HeadersReadBack.{reads_back}
use Rattle.age_format.proofs.laws.canonical_text_reads_back.Goals as goal

pub returns-clause-reads : goal.returns-clause-reads
returns-clause-reads c = λ legacy stanzas mac more h. reads_back legacy (header_text stanzas mac) more stanzas mac
    (canonical_header legacy stanzas mac h)

pub returns-clause-covers : goal.returns-clause-covers
returns-clause-covers c = covered_canonical
