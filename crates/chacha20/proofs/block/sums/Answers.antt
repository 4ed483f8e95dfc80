use Rattle.std.proofs.Common.{◌≡◌, ◌+◌, ◌∷◌, [], get_or, add-zero}
use Rattle.std.specs.Prelude.{slice_index}
use Rattle.chacha20.specs.Rounds.{word_sum}
use Rattle.chacha20.specs.Lanes.{lane}
use Rattle.chacha20.proofs.Sides.{each_lane, slice_index-lane}
use Rattle.chacha20.proofs.block.sums.Goals as goal

pub returns : goal.returns
returns c j k h l =
    let states = c.args.states.now in
    let before = c.args.before.now in
    let from = c.args.from in
    rw (slice_index-lane states j (from + k), slice_index-lane before j (from + k)) (
    each_lane (λ k. slice_index (lane j (c.sum.result ∷ c.sum-2.result ∷ c.sum-3.result ∷ c.sum-4.result ∷ c.sum-5.result ∷ c.sum-6.result
    ∷ c.sum-7.result ∷ c.sum-8.result ∷ [])) k
    ≡ word_sum (slice_index (get_or states (from + k) []) j) (slice_index (get_or before (from + k) []) j))
    (rw add-zero (c.sum.ensures j h)) (c.sum-2.ensures j h) (c.sum-3.ensures j h) (c.sum-4.ensures j h)
    (c.sum-5.ensures j h) (c.sum-6.ensures j h) (c.sum-7.ensures j h) (c.sum-8.ensures j h) k l)
