use Rattle.std.proofs.Common.{◌≡◌, ◌+◌, ◌*◌, sym, arith}
use Rattle.age_bench.proofs.Hex.{odd, byte_more, text_done}
use Rattle.age_bench.proofs.command.parse_bytes.Goals as goal

pub returns-then-text-ne0 : goal.returns-then-text-ne0
returns-then-text-ne0 c = sym (odd c.args.text.now c.if-text-ne0.true)

pub loop-i-preserved : goal.loop-i-preserved
loop-i-preserved c =
    let next : 2 * (c.loop-i.i + 1) ≡ 2 * c.loop-i.i + 2 = omega arith in
    rw (next, c.in_ok-push.ensures.items)
    (byte_more c.args.text.now c.loop-i.bytes.items (2 * c.loop-i.i) c.in-Some.byte (omega arith) (sym c.in-Some.ensures) c.loop-i.invariant)

pub returns : goal.returns
returns c = text_done c.args.text.now c.loop-i.bytes.items (2 * c.loop-i.i)
    (omega (arith, c.if-text-ne0.false, c.loop-i-test.false)) c.loop-i.invariant
