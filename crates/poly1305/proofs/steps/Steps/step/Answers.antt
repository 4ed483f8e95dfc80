use Rattle.std.proofs.Common.{◌+◌, ◌*◌, take, arith}
use Rattle.poly1305.specs.Mac.{clamped}
use Rattle.poly1305.proofs.Grouping.{scaled_at}
use Rattle.poly1305.proofs.Stepping.{by_blocks, by_bytes}
use Rattle.poly1305.proofs.steps.Steps.step.Goals as goal

pub returns-clause-taken : goal.returns-clause-taken
returns-clause-taken c = λ key text powers before.
    let r = clamped (take 16 key) in
    let i = 4 * c.args.i in
    let group = c.args.group.now in
    let is = powers.powers in
    let zero = by_blocks r _ c.args.i text group (omega arith) c.requires.group before.scaled in
    let one = c.with_block-first.ensures.value r text is zero in
    let two = c.with_block-second.ensures.value r text is one in
    let three = c.with_block-third.ensures.value r text is (scaled_at r 32 _ (i + 1 + 1) (i + 2) text group (omega arith) two) in
    let four = c.with_block-self.ensures.value r text is (scaled_at r 32 _ (i + 2 + 1) (i + 3) text group (omega arith) three) in
    let all = scaled_at r 32 _ (i + 3 + 1) (4 * (c.args.i + 1)) text group (omega arith) four in
    record { scaled = by_bytes r _ (c.args.i + 1) text group (omega arith) c.requires.group all }
