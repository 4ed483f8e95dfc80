use Rattle.std.proofs.Common.{◌+◌, ◌%◌, ◌^◌, ◌∙◌, ap, refl}
use Rattle.chacha20.specs.Block.{initial_state}
use Rattle.chacha20.specs.Rounds.{double_rounds}
use Rattle.chacha20poly1305.proofs.sealing.states_of.Goals as goal

pub returns : goal.returns
unfolding double_rounds
returns c = record {
  first = λ j h. c.initial_states.ensures j h ∙ ap (λ m. initial_state c.args.key.now ((m + j) % 2 ^ 32) c.args.nonce.now) c.counter_of.ensures;
  done = λ j h. refl;
}
