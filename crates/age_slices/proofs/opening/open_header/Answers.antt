use Rattle.std.proofs.Common.{inr}
use Rattle.age_slices.proofs.opening.open_header.Goals as goal

pub returns-in-Ok : goal.returns-in-Ok
returns-in-Ok g c = inr (
  c.in-Ok.keys.items,
  c.open_header_by.new.identities,
  c.in-Ok.ensures,
  rw c.deref_mut.ensures.value at c.open_header_by.ensures,
)
