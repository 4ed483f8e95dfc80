use Rattle.std.proofs.Common.{◌+◌, ◌-◌, ◌*◌, arith}
use Rattle.std.proofs.lemmas.List.{take_all, append-nil, append_assoc}
use Rattle.poly1305.proofs.Accumulating.{take_part}
use Rattle.poly1305.proofs.authenticator.Poly1305.take_each.Goals as goal

pub each-init : goal.each-init
each-init c = record {
  given = λ key text given. rw append-nil given;
  unbegun = c.requires.unbegun;
}

pub each-preserved : goal.each-preserved
each-preserved c = record {
  given = λ key text given.
      let i = c.each.i in
      let more = c.take_block.ensures.given key _ (c.each.invariant.given key text given) in
      rw (append_assoc, take_part c.args.blocks.now (16 * i) (16 * i + 16 - 16 * i) (16 * (i + 1)) (omega arith)) at more;
  unbegun = c.take_block.ensures.unbegun;
}

pub returns-clause-given : goal.returns-clause-given
returns-clause-given c = λ key text given.
    let all = take_all (16 * c.each.i) c.args.blocks.now (omega arith) in
    rw all at c.each.invariant.given key text given
