use Rattle.std.proofs.Common.{refl}
use Rattle.age_stream.specs.ReadingLemmas.{and-left, and-right}
use Rattle.age_stream.proofs.Holding.{sound-new}
use Rattle.age_stream.proofs.Making.{is-new}
use Rattle.age_stream.proofs.reader.StreamReader.with_payload_key.Goals as goal

pub invariant_of-result-2-clause-sound : goal.invariant_of-result-2-clause-sound
invariant_of-result-2-clause-sound g c = λ told.
    let source = c.in_ok-source.source in
    sound-new g.S.Suite.opened c.args.key _ _ source (record { number = refl; at = refl; held = refl; sought = refl; good = refl })
    c.in_ok-source.ensures.made.1 (g.met.R.Read.stands source.inner (and-left _ _ told) (and-right _ _ told))

pub returns-clause-made : goal.returns-clause-made
returns-clause-made g c =
    is-new _ g.met.S.Suite.cipher g.met.R.Read.are_bytes g.met.R.Read.stands c.args.inner c.in_ok-source.ensures.made.0 c.in_ok-source.ensures.made.1
    (record { number = refl; at = refl; held = refl; sought = refl; good = refl }) c.new-3.ensures
