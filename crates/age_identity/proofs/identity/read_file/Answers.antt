use Rattle.std.proofs.Common.{refl}
use Rattle.age_identity.proofs.Finishing.{refused_file, read_of_file}
use Rattle.age_identity.proofs.identity.read_file.Goals as goal

pub returns-in-Err-clause-reads : goal.returns-in-Err-clause-reads
returns-in-Err-clause-reads g c = (
  c.read_entries.new.reader.inner,
  refused_file g.R.Read c.new-reader.result.left _ _ c.new-reader.result.inner c.args.data c.read_entries.new.reader.inner c.in-Err.e
      c.new-reader.ensures.left c.new-reader.ensures.inner c.in-Err.ensures,
)

pub returns-clause-reads : goal.returns-clause-reads
returns-clause-reads g c = (
  c.read_entries.new.reader.inner,
  read_of_file g.R.Read c.new-reader.result.left _ _ c.new-reader.result.inner c.args.data c.read_entries.new.reader.inner c.in-Ok.entries _
      c.new-reader.ensures.left c.new-reader.ensures.inner refl c.in-Ok.ensures,
)
