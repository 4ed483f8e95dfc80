use Rattle.std.proofs.Common.{◌+◌, ◌∙◌, arith, length-set}
use Rattle.chacha20.proofs.Streams.{combined, past}
use Rattle.chacha20.proofs.stream.combine.Goals as goal

pub whole-preserved : goal.whole-preserved
whole-preserved c = (
  length-set c.whole.bytes (c.args.at + c.whole.k) _ ∙ c.whole.invariant.0,
  λ key counter nonce from text stream before.
      combined key counter nonce from text c.args.words c.bytes_of-stream.result c.whole.bytes c.args.at c.whole.k (omega arith)
      (omega (arith, c.whole.invariant.0))
      c.bytes_of-stream.ensures stream (c.whole.invariant.1 key counter nonce from text stream before),
)

pub part-preserved : goal.part-preserved
part-preserved c = (
  length-set c.part.bytes (c.args.at + c.part.k) _ ∙ c.part.invariant.0,
  λ key counter nonce from text stream before.
      combined key counter nonce from text c.args.words c.bytes_of-stream.result c.part.bytes c.args.at c.part.k (omega arith)
      (omega (arith, c.part.invariant.0))
      c.bytes_of-stream.ensures stream (c.part.invariant.1 key counter nonce from text stream before),
)

pub returns-after-part-clause-encrypts : goal.returns-after-part-clause-encrypts
returns-after-part-clause-encrypts c key counter nonce from text stream before =
    past key counter nonce from text c.part.bytes (c.args.at + c.part.k) (c.args.at + 32) (omega (arith, c.part.invariant.0))
    (omega (arith, c.part.invariant.0))
    (c.part.invariant.1 key counter nonce from text stream before)

pub returns-else-at-len-2-clause-encrypts : goal.returns-else-at-len-2-clause-encrypts
returns-else-at-len-2-clause-encrypts c key counter nonce from text stream before =
    past key counter nonce from text c.args.bytes.now c.args.at (c.args.at + 32) (omega arith) (omega arith) before
