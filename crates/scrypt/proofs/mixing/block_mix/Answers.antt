use Rattle.std.proofs.Common.{◌≡◌, ◌+◌, ◌*◌, length-set, refl, ap, arith, ◌∙◌}
use Rattle.scrypt.specs.BlockMix.{chained, even_hashes, odd_hashes}
use Rattle.scrypt.proofs.Hashes.{chained_more, evens_more, odds_more, mixed_whole}
use Rattle.scrypt.proofs.mixing.block_mix.Goals as goal

pub pairs-init : goal.pairs-init
unfolding chained even_hashes odd_hashes
pairs-init c = record { chain = refl; long = refl; even = refl; odd = refl }

pub pairs-preserved : goal.pairs-preserved
pairs-preserved c =
    let b = c.args.b.now in
    let i = c.pairs.i in
    let held = c.pairs.invariant in
    let even = chained_more b c.pairs.x c.hash-x.result (2 * i) held.chain c.hash-x.ensures in
    let odd = chained_more b c.hash-x.result c.hash-x-in-pairs.result (2 * i + 1) even c.hash-x-in-pairs.ensures in
    let next : 2 * i + 1 + 1 ≡ 2 * (i + 1) = omega arith in
    record {
      chain = odd ∙ ap (chained b) next;
      long = rw (length-set, length-set) held.long;
      even = evens_more b c.pairs.mixed _ _ i (omega arith) (omega (arith, held.long)) held.even even;
      odd = odds_more b c.pairs.mixed _ _ i (omega arith) (omega (arith, held.long)) held.odd odd;
    }

pub returns : goal.returns
returns c =
    let held = c.pairs.invariant in
    mixed_whole c.args.b.now c.pairs.mixed c.pairs.i (omega arith) held.long held.even held.odd
