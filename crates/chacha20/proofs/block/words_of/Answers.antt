use Rattle.std.proofs.Common.{◌≡◌, ◌+◌, ◌%◌, ◌^◌, ◌<◌, ◌∙◌, ℕ, arith}
use native.Mathlib.Nat.{zero-add}
use Rattle.std.specs.Prelude.{slice_index}
use Rattle.chacha20.specs.Rounds.{word_sum}
use Rattle.chacha20.specs.Block.{block_words}
use Rattle.chacha20.specs.Lanes.{lane}
use Rattle.chacha20.proofs.Blocks.{block_words-at}
use Rattle.chacha20.proofs.Sides.{front_of, back_of}
use Rattle.chacha20.proofs.block.words_of.Goals as goal

pub returns : goal.returns
returns c = λ key counter nonce done.
    let fronts = c.transposed-fronts.result in
    let backs = c.transposed-backs.result in
    let after = c.args.states.now in
    let before = c.args.before.now in
    let word : (j k : ℕ) → j < 8 → k < 16 → word_sum (slice_index (lane j after) k) (slice_index (lane j before) k)
    ≡ slice_index (block_words key ((counter + j) % 2 ^ 32) nonce) k
    = λ j k h l. block_words-at key _ nonce (lane j after) (lane j before) k l (done.first j h) (done.done j h) in
    record {
      front = λ j k h l. front_of fronts backs j k h ∙ c.transposed-fronts.ensures j k h l ∙ c.sums.ensures j k h l
          ∙ rw zero-add (word j k h (omega arith));
      back = λ j k h l. back_of fronts backs j k h ∙ c.transposed-backs.ensures j k h l ∙ c.sums-2.ensures j k h l ∙ word j (8 + k) h (omega arith);
    }
