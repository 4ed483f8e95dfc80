use Rattle.std.proofs.Common.{refl, inl}
use Rattle.sazh_core.proofs.holder.HolderIdentity.unwrap_stanzas.Goals as goal

pub returns-in-File : goal.returns-in-File
returns-in-File g c = inl (rw c.in-File.is
    (_, c.unwrap_stanzas-in-File.new.self, c.unwrap_stanzas-in-File.ensures.unwraps, c.passed_over.ensures, refl))
