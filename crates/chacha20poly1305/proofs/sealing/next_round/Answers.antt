use Rattle.std.proofs.Common.{◌≡◌, ◌+◌, ◌∙◌, suc, ap, arith}
use Rattle.chacha20.specs.Lanes.{lane}
use Rattle.chacha20.specs.Rounds.{double_round, double_rounds}
use Rattle.chacha20poly1305.proofs.sealing.next_round.Goals as goal

pub returns : goal.returns
unfolding double_rounds
returns c = λ key nonce counter rounds before so_far.
    let next : suc rounds ≡ rounds + 1 = omega arith in
    record {
      first = so_far.first;
      done = λ j h. c.double_round.ensures j h ∙ ap double_round (so_far.done j h) ∙ ap (λ k. double_rounds k (lane j before)) next;
    }
