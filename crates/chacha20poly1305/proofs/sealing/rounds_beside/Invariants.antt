use Rattle.std.proofs.Common.{◌+◌, ◌*◌, ℕ, List, take}
use Rattle.chacha20.specs.Blocks.{HasDone}
use Rattle.poly1305.specs.Given.{WasGiven}
use Rattle.poly1305.specs.Steps.{ArePowersFor, AreBelowAfter, HasTaken}
use Rattle.chacha20poly1305.proofs.sealing.rounds_beside.Given as goal

-- so many double rounds and steps are done
abbrev pub invariant-rounds : goal.invariant-rounds
invariant-rounds l =
    ((key nonce : List ℕ) (counter : ℕ) (before : List (List ℕ)) → HasDone key counter nonce 2 before l.fn.states
    → HasDone key counter nonce (l.i + 2) before l.states)
    × AreBelowAfter l.i l.steps
    × ((one text : List ℕ) → ArePowersFor one l.fn.powers → WasGiven l.fn.state one text → HasTaken one text (take (64 * l.i) l.fn.group) l.steps)
