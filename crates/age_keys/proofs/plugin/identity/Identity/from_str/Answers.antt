use Rattle.std.proofs.Common.{◌∙◌, sym}
use Rattle.age_keys.proofs.Names.{no_name, identity_wants}
use Rattle.age_keys.proofs.plugin.identity.Identity.from_str.Goals as goal

pub returns-in_default-name_in : goal.returns-in_default-name_in
returns-in_default-name_in c =
    no_name c.args.text.now c.in-Some.prefix.now c.in-Some-between.before.now c.without_hyphens.result.now c.in-Some.ensures.0 c.in-Some.ensures.1
    (sym c.as_bytes.ensures.value ∙ c.in-Some-between.ensures) c.without_hyphens.ensures c.in_default-name_in.ensures

pub returns-in_default-to_ascii_lowercase : goal.returns-in_default-to_ascii_lowercase
returns-in_default-to_ascii_lowercase c =
    identity_wants c.args.text.now c.in-Some.prefix.now c.in-Some-between.before.now c.without_hyphens.result.now c.in-Some.ensures.0
    c.in-Some.ensures.1
    (sym c.as_bytes.ensures.value ∙ c.in-Some-between.ensures) c.without_hyphens.ensures c.in-Some-name_in.ensures.1

pub returns-in-Err : goal.returns-in-Err
returns-in-Err c =
    identity_wants c.args.text.now c.in-Some.prefix.now c.in-Some-between.before.now c.without_hyphens.result.now c.in-Some.ensures.0
    c.in-Some.ensures.1
    (sym c.as_bytes.ensures.value ∙ c.in-Some-between.ensures) c.without_hyphens.ensures c.in-Some-name_in.ensures.1
