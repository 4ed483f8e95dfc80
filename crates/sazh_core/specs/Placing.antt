-- A reader that counts what it hands on.
use Rattle.age.specs.Members.{ReadMembers}
use Rattle.sazh_core.specs.declared.counting.Placed.{Placed}

-- the reader that it reads from
abbrev pub inner_of : {R : Type 0} {read : ReadMembers R} → Placed R read → R
inner_of r = r.inner
