use Rattle.std.proofs.Common.{◌≡◌, ◌+◌, ◌*◌, ◌≤◌, ◌-◌, ◌/◌, arith, length, refl, ap}
use borrow.Rule.Slice.PartMut.{put_mid}
use Rattle.age_v1.specs.ArmorFullLines.{full_lines}
use Rattle.age_armor.proofs.AheadLines.{gathered}
use Rattle.age_armor.proofs.gathering.gather.Goals as goal

pub lines-init : goal.lines-init
unfolding full_lines
lines-init c = record {
  most = let h : 0 ≤ length c.args.columns.now / 64 = omega arith in h;
  shown = let h : 0 ≤ length c.args.front.now = omega arith in h;
  lines = λ bytes size same. refl;
}

pub is_line-requires : goal.is_line-requires
is_line-requires c = c.lines.invariant.shown

pub lines-preserved : goal.lines-preserved
lines-preserved c =
    let front = c.args.front.now in
    let n = c.lines.count in
    let is = c.is_line.ensures c.if-is_line.true in
    let width : 65 * n + 64 - 65 * n ≡ 64 = omega arith in
    let copied = rw width at c.copy_from_slice.ensures.after in
    let h : 65 * (n + 1) ≤ length front = is.0 in
    let below : n + 1 ≤ length c.args.columns.now / 64 = omega (arith, c.lines-test.true) in
    record {
      most = below;
      shown = h;
      lines = gathered front c.lines.columns _ n _ (ap (λ z. put_mid (64 * n) (64 * n + 64 - 64 * n) c.lines.columns z) copied)
          (omega (arith, c.lines-test.true, c.lines.auto.columns)) h is.1 c.lines.invariant.lines;
    }

pub returns-else-is_line-clause-shown : goal.returns-else-is_line-clause-shown
returns-else-is_line-clause-shown c = c.lines.invariant.shown

pub returns-else-is_line-clause-lines : goal.returns-else-is_line-clause-lines
returns-else-is_line-clause-lines c = c.lines.invariant.lines

pub returns-after-lines-clause-room : goal.returns-after-lines-clause-room
returns-after-lines-clause-room c = omega (arith, c.lines.invariant.most, c.lines.auto.columns)

pub returns-after-lines-clause-shown : goal.returns-after-lines-clause-shown
returns-after-lines-clause-shown c = c.lines.invariant.shown

pub returns-after-lines-clause-lines : goal.returns-after-lines-clause-lines
returns-after-lines-clause-lines c = c.lines.invariant.lines
