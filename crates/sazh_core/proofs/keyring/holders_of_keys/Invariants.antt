use Rattle.std.proofs.Common.{◌≡◌, ◌++◌, length, map}
use Rattle.std.specs.Vec.Iter.{into_iter_items, into_iter_len}
use Rattle.sazh_core.specs.declared.holder.Holder.TheVariants.{Key}
use Rattle.sazh_core.proofs.keyring.holders_of_keys.Given as goal

-- those who have the keys so far, and the keys that are left
abbrev pub invariant-loop-key : goal.invariant-loop-key
invariant-loop-key g l = (l.holders.items ++ map (λ secret. Key secret) (into_iter_items l.key-iterator) ≡ map (λ secret. Key secret) l.fn.keys.items)
    × (into_iter_len l.key-iterator ≡ length (into_iter_items l.key-iterator))
