use Rattle.std.proofs.Common.{◌≡◌, ◌∙◌, [], append-nil, sym}
use Rattle.std.specs.Vec.Iter.{into_iter_items}
use Rattle.sazh_core.proofs.Leftover.{nothing_left}
use Rattle.sazh_core.proofs.keyring.holders_of_keys.Goals as goal

pub returns : goal.returns
returns g c =
    let at = c.loop-key in
    let none = c.in-None.ensures.steps in
    let empty : into_iter_items at.key-iterator ≡ [] = nothing_left _ (sym at.invariant.1 ∙ none.0) in
    sym (append-nil at.holders.items) ∙ rw empty at at.invariant.0
