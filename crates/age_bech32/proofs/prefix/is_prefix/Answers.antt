use Rattle.std.proofs.Common.{◌≡◌, ◌≢◌, ◌≤◌, ◌∙◌, length, sym, subst, take, All, arith}
use Rattle.std.proofs.lemmas.Bool.{eqb-false}
use Rattle.std.proofs.lemmas.List.Elements.{All-more}
use Rattle.age_bech32.proofs.Lists.{whole}
use Rattle.age_bech32.proofs.prefix.is_prefix.Goals as goal

pub loop-byte-preserved : goal.loop-byte-preserved
loop-byte-preserved c = record {
  low = All-more (λ b. 33 ≤ b) c.args.bytes.now c.loop-byte.byte-index 0 c.loop-byte-test.true c.loop-byte.invariant.low c.if-byte-lt33.false;
  high = All-more (λ b. b ≤ 126) c.args.bytes.now c.loop-byte.byte-index 0 c.loop-byte-test.true c.loop-byte.invariant.high c.if-byte-gt126.false;
}

pub returns : goal.returns
returns c =
    let all : take c.loop-byte.byte-index c.args.bytes.now ≡ c.args.bytes.now =
    whole c.args.bytes.now c.loop-byte.byte-index c.loop-byte-test.false in
    let some : length c.args.bytes.now ≢ 0 = eqb-false (length c.args.bytes.now) 0 (sym c.is_empty.ensures ∙ c.if-is_empty.false) in
    record {
      some = omega arith;
      few = omega arith;
      low = subst (All (λ b. 33 ≤ b)) all c.loop-byte.invariant.low;
      high = subst (All (λ b. b ≤ 126)) all c.loop-byte.invariant.high;
    }
