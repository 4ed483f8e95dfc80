use Rattle.age_io.proofs.Moving.{place_after_all-within, replies-append, reads-append}
use Rattle.age_io.proofs.laws.cursor_laws.Goals as goal

pub returns-clause-stays : goal.returns-clause-stays
returns-clause-stays c = place_after_all-within

pub returns-clause-parts : goal.returns-clause-parts
returns-clause-parts c = replies-append

pub returns-clause-reads : goal.returns-clause-reads
returns-clause-reads c = reads-append
