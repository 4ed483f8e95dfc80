use Rattle.std.proofs.Common.{ℕ, ◌-◌, ◌*◌, ◌/◌, arith, refl}
use Rattle.sazh_core.proofs.inspecting.lengths_of_payload.Goals as goal

pub returns : goal.returns
returns c =
    let before : ℕ = c.saturating_sub-before.result / 65552 in
    record {
      nonce = refl;
      before = before;
      last = c.args.payload - 65552 * before;
      counted = refl;
      whole = Prim.omega (arith, c.saturating_sub-before.ensures);
      tag = Prim.omega (arith, c.if-last-least_last.false, c.least_last.ensures.tag);
      most = Prim.omega (arith, c.saturating_sub-before.ensures);
      some = λ more. Prim.omega (arith, c.if-last-least_last.false, c.least_last.ensures.later more);
      plaintext = Prim.omega (arith, c.saturating_sub-before.ensures, c.if-last-least_last.false, c.least_last.ensures.tag);
    }
