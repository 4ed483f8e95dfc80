use Rattle.std.proofs.Common.{inr}
use Rattle.age_identity.specs.IdentityFile.{entries_of}
use Rattle.age_identity.specs.Reading.{most_file_bytes}
use Rattle.age_identity.proofs.SameEntries.{reads_so}
use Rattle.age_identity.proofs.identity.IdentityFile+S+NoCallbacks.from_file.Goals as goal

pub returns-in-Err-read_file-clause-reads : goal.returns-in-Err-read_file-clause-reads
returns-in-Err-read_file-clause-reads g c = inr (c.new.result, c.new.ensures.faults, c.in-Err-read_file.ensures.reads)

pub returns-in-Ok-read_file-clause-reads : goal.returns-in-Ok-read_file-clause-reads
returns-in-Ok-read_file-clause-reads g c =
    inr (
      c.new.result,
      c.new.ensures.faults,
      reads_so _ most_file_bytes (λ file. entries_of file)
          (λ file. entries_of file) c.new.result c.in-Ok-read_file.file c.with_name.result c.with_name.ensures.entries
          c.in-Ok-read_file.ensures.reads,
    )
