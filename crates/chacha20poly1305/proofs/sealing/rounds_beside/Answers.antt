use Rattle.std.proofs.Common.{◌≡◌, ℕ, ◌+◌, ◌*◌, subst, arith}
use Rattle.std.proofs.lemmas.List.{take_all}
use Rattle.chacha20.specs.Blocks.{HasDone}
use Rattle.chacha20poly1305.proofs.sealing.rounds_beside.Goals as goal

pub rounds-init : goal.rounds-init
rounds-init c = (
  λ key nonce counter before done. done,
  c.new-steps.ensures.below,
  λ one text powers given. c.new-steps.ensures.taken one text powers given,
)

pub rounds-preserved : goal.rounds-preserved
rounds-preserved c =
    let next : c.rounds.i + 2 + 1 ≡ c.rounds.i + 1 + 2 = omega arith in (
      λ key nonce counter before begun. subst (λ (k : ℕ). HasDone key counter nonce k before c.next_round.new.states) next
          (c.next_round.ensures key nonce counter _ before (c.rounds.invariant.0 key nonce counter before begun)),
      c.step.ensures.below,
      λ one text powers given. c.step.ensures.taken one text powers (c.rounds.invariant.2 one text powers given),
    )

pub returns-clause-rounds : goal.returns-clause-rounds
returns-clause-rounds c = λ key nonce counter before begun.
    let all : c.rounds.i ≡ 8 = omega arith in
    subst (λ (i : ℕ). HasDone key counter nonce (i + 2) before c.rounds.states) all (c.rounds.invariant.0 key nonce counter before begun)

pub returns-clause-given : goal.returns-clause-given
returns-clause-given c = λ one text powers given.
    let all = take_all (64 * c.rounds.i) c.args.group.now (omega (arith, c.requires.group)) in
    c.take_group.ensures.given one text c.args.group.now c.requires.group given (rw all at (c.rounds.invariant.2 one text powers given))
