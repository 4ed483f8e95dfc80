use Rattle.std.proofs.Common.{refl}
use Rattle.curve25519.specs.X25519.{a24}
use Rattle.x25519.proofs.Congruences.{of_sum, of_difference, of_product, of_square}
use Rattle.x25519.proofs.LadderSteps.{exchanged_left, exchanged_right}
use Rattle.x25519.proofs.ladder.ladder_step.Goals as goal

pub returns : goal.returns
returns c = λ x_1 defined hu h.
    let k_t = c.args.k_t in
    let s = c.args.state in
    let x_2 = exchanged_left k_t s.swap defined.swap _ _ _ _ _ h.swap h.x_2 h.x_3 c.conditional_swap.ensures.left in
    let x_3 = exchanged_right k_t s.swap defined.swap _ _ _ _ _ h.swap h.x_2 h.x_3 c.conditional_swap.ensures.right in
    let z_2 = exchanged_left k_t s.swap defined.swap _ _ _ _ _ h.swap h.z_2 h.z_3 c.conditional_swap-2.ensures.left in
    let z_3 = exchanged_right k_t s.swap defined.swap _ _ _ _ _ h.swap h.z_2 h.z_3 c.conditional_swap-2.ensures.right in
    let A = of_sum _ _ _ _ _ x_2 z_2 c.sum-a.ensures in
    let AA = of_square _ _ _ A c.square-aa.ensures in
    let B = of_difference _ _ _ _ _ x_2 z_2 c.difference-b.ensures in
    let BB = of_square _ _ _ B c.square-bb.ensures in
    let E = of_difference _ _ _ _ _ AA BB c.difference-e.ensures in
    let C = of_sum _ _ _ _ _ x_3 z_3 c.sum-c.ensures in
    let D = of_difference _ _ _ _ _ x_3 z_3 c.difference-d.ensures in
    let DA = of_product _ _ _ _ _ D A c.product-da.ensures in
    let CB = of_product _ _ _ _ _ C B c.product-cb.ensures in
    let both = of_sum _ _ _ _ _ DA CB c.sum-da_and_cb.ensures in
    let apart = of_difference _ _ _ _ _ DA CB c.difference-da_less_cb.ensures in
    let apart_squared = of_square _ _ _ apart c.square-da_less_cb_squared.ensures in
    let small = of_product _ _ _ a24 _ refl E c.small_product-a24_times_e.ensures in
    let AA_more = of_sum _ _ _ _ _ AA small c.sum-aa_and_more.ensures in
    record {
      x_2 = of_product _ _ _ _ _ AA BB c.product-new_x_2.ensures;
      z_2 = of_product _ _ _ _ _ E AA_more c.product-new_z_2.ensures;
      x_3 = of_square _ _ _ both c.square-new_x_3.ensures;
      z_3 = of_product _ _ _ _ _ hu apart_squared c.product-new_z_3.ensures;
      swap = refl;
    }
