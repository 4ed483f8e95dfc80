use Rattle.std.proofs.Common.{refl}
use Rattle.chacha20.specs.Block.{initial_state}
use Rattle.chacha20.proofs.Sides.{splat-at}
use Rattle.chacha20.proofs.block.initial_states.Goals as goal

pub returns : goal.returns
unfolding initial_state
returns c j h =
    rw (
      splat-at 0x61707865 j h,
      splat-at 0x3320646e j h,
      splat-at 0x79622d32 j h,
      splat-at 0x6b206574 j h,
      c.word.ensures j h,
      c.word-2.ensures j h,
      c.word-3.ensures j h,
      c.word-4.ensures j h,
      c.word-5.ensures j h,
      c.word-6.ensures j h,
      c.word-7.ensures j h,
      c.word-8.ensures j h,
      c.counters.ensures j h,
      c.word-9.ensures j h,
      c.word-10.ensures j h,
      c.word-11.ensures j h,
    ) refl
