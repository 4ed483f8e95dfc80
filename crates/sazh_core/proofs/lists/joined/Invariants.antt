use Rattle.std.proofs.Common.{◌≡◌, ◌++◌, length}
use Rattle.std.specs.Vec.Iter.{into_iter_items, into_iter_len}
use Rattle.sazh_core.proofs.lists.joined.Given as goal

-- what was joined and what is left are those that were handed in
abbrev pub invariant-loop-one : goal.invariant-loop-one
invariant-loop-one g l = (l.all.items ++ into_iter_items l.one-iterator ≡ l.fn.first.items ++ l.fn.others.items)
    × (into_iter_len l.one-iterator ≡ length (into_iter_items l.one-iterator))
