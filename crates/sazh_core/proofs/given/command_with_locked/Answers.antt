use Rattle.sazh_core.proofs.Told.{file_names, random_names}
use Rattle.sazh_core.proofs.given.command_with_locked.Goals as goal

pub returns-in-Random : goal.returns-in-Random
returns-in-Random g c = rw c.in-Random.is (random_names _ _)

pub returns-in-File : goal.returns-in-File
returns-in-File g c = rw c.in-File.is (file_names _ _ _ c.with_locked.ensures)
