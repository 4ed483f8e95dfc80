use Rattle.std.proofs.Common.{inr}
use Rattle.sazh_core.proofs.inspecting.inspect.Goals as goal

pub returns : goal.returns
returns g c =
    let text = c.in-Ok.ensures in
    inr (
      c.in-Ok.text,
      record { tells = text.tells; steady = text.steady; faults = text.faults; place = text.place; rest = text.rest; honest = text.honest },
      rw c.new-text.ensures at (c.inspect_text.ensures (rw c.new-text.ensures text.place)),
    )
