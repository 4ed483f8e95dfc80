use Rattle.std.proofs.Common.{◌≡◌, ◌↔◌, IsTrue, length, take}
use Rattle.poly1305.proofs.authenticator.are_same.Given as goal

-- so far it is true exactly where the slices are as long and the bytes so far are the same
abbrev pub invariant-loop-x : goal.invariant-loop-x
invariant-loop-x l =
    IsTrue l.same ↔ ((length l.left ≡ length l.right) × (take (length l.yielded) l.left ≡ take (length l.yielded) l.right))
