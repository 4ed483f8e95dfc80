use Rattle.std.proofs.Common.{refl, inl}
use Rattle.sazh_core.proofs.holder.HolderIdentity.unwrap_stanza.Goals as goal

pub returns-in-File : goal.returns-in-File
returns-in-File g c = rw c.in-File.is (_, c.unwrap_stanza-in-File.new.self, inl c.unwrap_stanza-in-File.ensures, c.passed_over.ensures, refl)
