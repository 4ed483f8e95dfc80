use Rattle.std.proofs.Common.{◌≡◌, ◌+◌, ◌*◌, ◌∙◌, refl, arith}
use Rattle.chacha20.proofs.Streams.{back_from, front_from, to_end}
use Rattle.chacha20.proofs.stream.combine_words.Goals as goal

pub places-init : goal.places-init
places-init c = (refl, λ key counter nonce n are. refl)

pub places-preserved : goal.places-preserved
places-preserved c =
    let blocks = c.args.blocks.now in
    let j = c.places.j in
    let next : 64 * (j + 1) ≡ 64 * j + 32 + 32 = omega arith in (
      c.combine-in-places.ensures.length ∙ c.combine.ensures.length ∙ c.places.invariant.0,
      λ key counter nonce n are.
          rw next (c.combine-in-places.ensures.encrypts key counter nonce (512 * n) c.args.bytes.now
          (back_from key counter nonce blocks n j (omega arith) are)
          (c.combine.ensures.encrypts key counter nonce (512 * n) c.args.bytes.now (front_from key counter nonce blocks n j (omega arith) are)
          (c.places.invariant.1 key counter nonce n are))),
    )

pub returns-clause-encrypts : goal.returns-clause-encrypts
returns-clause-encrypts c key counter nonce n are =
    to_end key counter nonce (512 * n) c.args.bytes.now c.places.bytes (64 * c.places.j) (omega arith) (c.places.invariant.1 key counter nonce n are)
