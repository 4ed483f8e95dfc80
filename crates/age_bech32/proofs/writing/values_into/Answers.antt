use Rattle.std.proofs.Common.{◌≡◌, ◌++◌, ◌^◌, ◌<◌, ◌∙◌, All, sym, subst}
use Rattle.age_bech32.specs.Written.{values_of_bytes}
use Rattle.age_bech32.proofs.Written.{groups-fit, values-fit, values_are}
use Rattle.age_bech32.proofs.writing.values_into.Goals as goal

pub check_of-requires : goal.check_of-requires
check_of-requires c = subst (All (λ v. v < 2 ^ 5)) (sym c.groups_into.ensures) (groups-fit c.args.bytes.now)

pub returns : goal.returns
returns c =
    let values : c.groups_into.new.groups ++ c.copy_from_slice.new.self ≡ values_of_bytes c.args.prefix.now c.args.bytes.now =
    values_are c.args.prefix.now c.args.bytes.now c.groups_into.new.groups c.copy_from_slice.new.self c.groups_into.ensures
    (c.copy_from_slice.ensures.after ∙ c.check_of.ensures.check) in
    record { values = values; fives = subst (All (λ v. v < 2 ^ 5)) (sym values) (values-fit c.args.prefix.now c.args.bytes.now) }
