use Rattle.std.proofs.Common.{◌∙◌, arith, sym}
use Rattle.age_armor.proofs.AheadLines.{ahead_none}
use Rattle.age_armor.proofs.counted.Counted.look_ahead.Goals as goal

pub invariant_of-self : goal.invariant_of-self
invariant_of-self g c =
    let before = c.args.self.now in
    let asks = c.in-Err.ensures.asks in
    record {
      behind = λ told. omega (arith, before.behind (sym asks.same.tells ∙ told), asks.stays (sym asks.same.tells ∙ told));
      size = c.in-Err.ensures.size;
      shows = ahead_none _ _ before.next;
      unspent = λ some. absurd (omega (arith, some));
    }
