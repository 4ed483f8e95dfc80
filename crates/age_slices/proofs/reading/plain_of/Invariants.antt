use Rattle.std.proofs.Common.{◌≡◌, length}
use Rattle.age.specs.DeliveredPayload.{payload_delivers, prepend}
use Rattle.age.specs.Stretch.{whole}
use Rattle.age_slices.proofs.reading.plain_of.Given as goal

abbrev pub invariant-loop-next : goal.invariant-loop-next
invariant-loop-next g l =
    payload_delivers g.S.Suite.opened l.key 0 (whole l.sealed)
    ≡ prepend l.plain.items (payload_delivers g.S.Suite.opened l.key l.number (whole l.rest))

abbrev pub decreases-loop-next : goal.decreases-loop-next
decreases-loop-next g l = length l.rest
