use Rattle.sazh_core.proofs.Locked.{Looked}
use Rattle.sazh_core.specs.Opening.{WereAsked}
use Rattle.sazh_core.proofs.given.has_locked.Given as goal

-- none of those before this one is locked
abbrev pub invariant-loop-holder : goal.invariant-loop-holder
invariant-loop-holder g l = WereAsked Looked l.fn.holders l.holders l.holder-index
