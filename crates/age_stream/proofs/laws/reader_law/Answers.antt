use Rattle.age_stream.specs.ReadingLemmas.{and-left, and-right}
use Rattle.age_stream.proofs.Remaining.{stand-rest, good-rest}
use Rattle.age_stream.proofs.laws.reader_law.Goals as goal

pub returns : goal.returns
returns g c =
    let r = c.args.reader.now in
    let inner = r.source.inner in
    record {
      stands = λ told.
          stand-rest g.S.Suite.seal_of g.S.Suite.opened g.met.S.Suite.cipher r.key r.key_bytes r.place r.cache r.source told
          (g.met.R.Read.are_bytes inner (and-left _ _ told)) (g.met.R.Read.stands inner (and-left _ _ told) (and-right _ _ told)) r.chunk
          (r.sound told);
      end = λ told well.
          good-rest g.S.Suite.seal_of g.S.Suite.opened g.met.S.Suite.cipher r.key r.key_bytes r.place r.cache r.source told
          (g.met.R.Read.are_bytes inner (and-left _ _ told)) (g.met.R.Read.stands inner (and-left _ _ told) (and-right _ _ told)) r.chunk
          (r.sound told) well;
    }
