use Rattle.age_protocol.proofs.Migrating.{migrated, refused_alone}
use Rattle.age_protocol.proofs.migrate.migrate.Goals as goal

pub returns-clause-files : goal.returns-clause-files
returns-clause-files g c = λ told well writer_told file_key stanzas plain is for.
    let alone = c.header_text_reads_back.ensures in
    let one = c.verdict_is_unique.ensures in
    let bytes = c.mac_laws.ensures.mac_bytes in (
      migrated alone one bytes g.S.Suite.seal_of g.I.Identity.unwraps g.R.Read g.W.Write g.met.W.Write.appends_nothing _ _ _ _ _ _ c.carry_over.result
          c.carry_over.ensures told well writer_told file_key stanzas plain is for,
      refused_alone alone one bytes g.S.Suite.seal_of g.I.Identity.unwraps g.R.Read g.W.Write g.met.W.Write.appends_nothing _ _ _ _ _ _
          c.carry_over.result
          c.carry_over.ensures told well writer_told file_key stanzas plain is for,
    )
