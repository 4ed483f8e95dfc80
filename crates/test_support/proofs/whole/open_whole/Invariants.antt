use Rattle.std.proofs.Common.{◌+◌, ◌<◌, ◌≤◌, ◌^◌}
use Rattle.age_v1.specs.PayloadRefusals.{IsOpenedTo}
use Rattle.test_support.proofs.whole.open_whole.Given as goal

-- the chunks before i are opened, each once, and none of them is too far
abbrev pub invariant-loop-i : goal.invariant-loop-i
invariant-loop-i g l = record {
  opened : IsOpenedTo g.S.Suite.seal_of l.key l.sealed l.i l.out.items;
  reach : l.i ≤ 2 ^ 44;
  counted : l.fn.opens < 2 ^ 64 → (l.fn.opens ≤ l.opens) × (l.opens < 2 ^ 64);
  most : l.opens ≤ l.fn.opens + l.i;
}
