use Rattle.std.proofs.Common.{◌-◌, ◌*◌, ◌^◌}
use Rattle.x25519.specs.Elements.{value}
use Rattle.x25519.proofs.PowerChain.{first_power, power_of_product, power_of_square, power_of_squares, power_inverse}
use Rattle.x25519.proofs.inverse.inverse.Goals as goal

pub returns : goal.returns
returns c =
    let z = value c.args.z in
    let power1 = first_power z in
    let power2 = power_of_square z _ _ 1 power1 c.square-power2.ensures in
    let power8 = power_of_squares z _ _ 2 2 power2 c.repeated_square-power8.ensures in
    let power9 = power_of_product z _ _ _ 8 1 power8 power1 c.product-power9.ensures in
    let power11 = power_of_product z _ _ _ 9 2 power9 power2 c.product-power11.ensures in
    let power22 = power_of_square z _ _ 11 power11 c.square-power22.ensures in
    let ones5 = power_of_product z _ _ _ 22 9 power22 power9 c.product-ones5.ensures in
    let shifted5 = power_of_squares z _ _ (2 ^ 5 - 1) 5 ones5 c.repeated_square-shifted5.ensures in
    let ones10 = power_of_product z _ _ _ ((2 ^ 5 - 1) * 2 ^ 5) (2 ^ 5 - 1) shifted5 ones5 c.product-ones10.ensures in
    let shifted10 = power_of_squares z _ _ (2 ^ 10 - 1) 10 ones10 c.repeated_square-shifted10.ensures in
    let ones20 = power_of_product z _ _ _ ((2 ^ 10 - 1) * 2 ^ 10) (2 ^ 10 - 1) shifted10 ones10 c.product-ones20.ensures in
    let shifted20 = power_of_squares z _ _ (2 ^ 20 - 1) 20 ones20 c.repeated_square-shifted20.ensures in
    let ones40 = power_of_product z _ _ _ ((2 ^ 20 - 1) * 2 ^ 20) (2 ^ 20 - 1) shifted20 ones20 c.product-ones40.ensures in
    let shifted40 = power_of_squares z _ _ (2 ^ 40 - 1) 10 ones40 c.repeated_square-shifted40.ensures in
    let ones50 = power_of_product z _ _ _ ((2 ^ 40 - 1) * 2 ^ 10) (2 ^ 10 - 1) shifted40 ones10 c.product-ones50.ensures in
    let shifted50 = power_of_squares z _ _ (2 ^ 50 - 1) 50 ones50 c.repeated_square-shifted50.ensures in
    let ones100 = power_of_product z _ _ _ ((2 ^ 50 - 1) * 2 ^ 50) (2 ^ 50 - 1) shifted50 ones50 c.product-ones100.ensures in
    let shifted100 = power_of_squares z _ _ (2 ^ 100 - 1) 100 ones100 c.repeated_square-shifted100.ensures in
    let ones200 = power_of_product z _ _ _ ((2 ^ 100 - 1) * 2 ^ 100) (2 ^ 100 - 1) shifted100 ones100 c.product-ones200.ensures in
    let shifted200 = power_of_squares z _ _ (2 ^ 200 - 1) 50 ones200 c.repeated_square-shifted200.ensures in
    let ones250 = power_of_product z _ _ _ ((2 ^ 200 - 1) * 2 ^ 50) (2 ^ 50 - 1) shifted200 ones50 c.product-ones250.ensures in
    let shifted250 = power_of_squares z _ _ (2 ^ 250 - 1) 5 ones250 c.repeated_square-shifted250.ensures in
    let last = power_of_product z _ _ _ ((2 ^ 250 - 1) * 2 ^ 5) 11 shifted250 power11 c.product.ensures in
    power_inverse z _ last
