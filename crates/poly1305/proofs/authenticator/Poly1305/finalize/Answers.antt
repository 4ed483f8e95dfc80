use Rattle.std.proofs.Common.{◌+◌, ◌%◌, ◌^◌, ◌∙◌, ap}
use Rattle.std.specs.Int.{w128, to_le_bytes}
use Rattle.poly1305.specs.Mac.{poly1305_mac}
use Rattle.poly1305.proofs.Accumulating.{summed}
use Rattle.poly1305.proofs.authenticator.Poly1305.finalize.Goals as goal

pub returns : goal.returns
unfolding poly1305_mac
returns c = λ key text given.
    c.to_le_bytes.ensures
    ∙ ap (λ n. to_le_bytes w128 ((n + c.args.self.s) % 2 ^ 128)) c.reduced.ensures
    ∙ ap (λ n. to_le_bytes w128 n) (summed _ _ _ _ (c.last_accumulator.ensures.value key text given) given.summand)
