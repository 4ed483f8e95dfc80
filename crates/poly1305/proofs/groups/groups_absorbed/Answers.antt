use Rattle.std.proofs.Common.{◌+◌, ◌-◌, ◌*◌, arith}
use Rattle.std.proofs.lemmas.List.{take_all, append-nil, append_assoc}
use Rattle.poly1305.proofs.Accumulating.{take_part}
use Rattle.poly1305.proofs.groups.groups_absorbed.Goals as goal

pub each-init : goal.each-init
each-init c = record {
  value = λ text given. rw append-nil given;
  high = c.requires.accumulator;
}

pub each-preserved : goal.each-preserved
each-preserved c = record {
  value = λ text given.
      let i = c.each.i in
      let before = c.each.invariant.value text given in
      let more = c.group_absorbed-next.ensures.value _ _ c.powers_of-powers.ensures.powers
      (c.columns_beyond-beyond.ensures.value _ c.powers_of-powers.ensures.powers) before in
      rw (append_assoc, take_part c.args.groups.now (1024 * i) (1024 * i + 1024 - 1024 * i) (1024 * (i + 1)) (omega arith)) at more;
  high = c.group_absorbed-next.ensures.high;
}

pub returns-clause-value : goal.returns-clause-value
returns-clause-value c = λ text given.
    let all = take_all (1024 * c.each.i) c.args.groups.now (omega arith) in
    rw all at c.each.invariant.value text given
