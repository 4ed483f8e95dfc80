use Rattle.std.proofs.Common.{arith, slice_index_or, subst}
use Rattle.sazh_core.proofs.Locked.{none_locked, one_locked}
use Rattle.sazh_core.proofs.Reached.{one_decides, one_more}
use Rattle.sazh_core.specs.Locked.{IsLocked}
use Rattle.sazh_core.proofs.given.has_locked.Goals as goal

pub returns-then-is_locked : goal.returns-then-is_locked
returns-then-is_locked g c =
    let it = slice_index_or c.loop-holder.holders c.loop-holder.holder-index c.holder-item.result in
    let locked = subst (λ b. IsLocked it b) c.if-is_locked.true c.is_locked.ensures in
    one_locked _ _ (one_decides _ _ _ _ _ c.is_locked.new.holder c.loop-holder.invariant (omega arith) tt locked).0

pub loop-holder-preserved : goal.loop-holder-preserved
loop-holder-preserved g c =
    let it = slice_index_or c.loop-holder.holders c.loop-holder.holder-index c.holder-item.result in
    let unlocked = subst (λ b. IsLocked it b) c.if-is_locked.false c.is_locked.ensures in
    one_more _ _ _ _ _ _ c.loop-holder.invariant (omega arith) unlocked

pub returns : goal.returns
returns g c = none_locked _ _ _ c.loop-holder.invariant (omega arith)
