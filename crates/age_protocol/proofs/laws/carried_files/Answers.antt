use Rattle.age_protocol.proofs.Carried.{gives_back, refuses_none}
use Rattle.age_protocol.proofs.laws.carried_files.Goals as goal

pub returns-clause-gives_back : goal.returns-clause-gives_back
returns-clause-gives_back g c =
    gives_back g.S.Suite.seal_of g.I.Identity.unwraps c.carried_is_unique.ensures c.one_plaintext.ensures.header c.one_plaintext.ensures.plaintext

pub returns-clause-refuses_none : goal.returns-clause-refuses_none
returns-clause-refuses_none g c =
    refuses_none g.S.Suite.seal_of g.I.Identity.unwraps c.header_text_reads_back.ensures c.verdict_is_unique.ensures c.carried_is_delivered.ensures
