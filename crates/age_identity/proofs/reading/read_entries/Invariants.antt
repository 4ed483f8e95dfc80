use Rattle.age_identity.specs.Limited.{left_of}
use Rattle.age_identity.proofs.Waiting.{HasRead}
use Rattle.age_identity.proofs.reading.read_entries.Given as goal

abbrev pub invariant-reads : goal.invariant-reads
invariant-reads g l = HasRead g.R.Read l.fn.reader l.reader l.parser

abbrev pub decreases-reads : goal.decreases-reads
decreases-reads g l = left_of l.reader
