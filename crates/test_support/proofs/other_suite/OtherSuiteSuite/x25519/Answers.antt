use Rattle.std.proofs.Common.{◌≡◌, ◌≢◌, ◌<◌, length, arith, sym, ◌∙◌, refl, below_more, length-set, get_or-set_other, get_or-set_same}
use Rattle.std.proofs.lemmas.List.{ext_get_or}
use Rattle.test_support.specs.Other.{other_shared}
use Rattle.test_support.specs.Laws.{length-shared}
use Rattle.test_support.proofs.Hiding.{get_or-shared}
use Rattle.test_support.proofs.other_suite.OtherSuiteSuite.x25519.Goals as goal

pub loop-i-preserved : goal.loop-i-preserved
loop-i-preserved c = record {
  len = rw length-set c.loop-i.invariant.len;
  done = below_more _ _
      (λ k h. let ne : k ≢ c.loop-i.i = omega arith in rw get_or-set_other (c.loop-i.invariant.done k h))
      (let lt : c.loop-i.i < length c.loop-i.shared = omega arith in rw get_or-set_same refl);
}

pub returns : goal.returns
returns c =
    let same : length c.args.secret.now ≡ length c.args.public.now = omega arith in
    let len = length-shared c.args.secret.now c.args.public.now same in
    ext_get_or 0 _ (other_shared c.args.secret.now c.args.public.now) (omega (arith, len))
    (λ k h. c.loop-i.invariant.done k (omega arith)
    ∙ sym (get_or-shared c.args.secret.now c.args.public.now k same (omega arith)))
