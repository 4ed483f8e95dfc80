use Rattle.clap.specs.Simple.{with_subcommand}
use Rattle.sazh_command.specs.App.{alone, keygen, encrypt, decrypt, part, migrate, rekey, verify, inspect}
use Rattle.sazh_command.proofs.app.sazh.Goals as goal

pub returns : goal.returns
returns c =
    let keys = with_subcommand alone keygen.top in
    let to = with_subcommand keys encrypt.top in
    let of = with_subcommand to decrypt.top in
    let some = with_subcommand of part.top in
    let old = with_subcommand some migrate.top in
    let again = with_subcommand old rekey.top in
    let whole = with_subcommand again verify.top in
    let keys_is = c.with_command-keys.ensures alone keygen c.alone.ensures c.keygen.ensures in
    let to_is = c.with_command-to.ensures keys encrypt keys_is c.encrypt.ensures in
    let of_is = c.with_command-of.ensures to decrypt to_is c.decrypt.ensures in
    let some_is = c.with_command-some.ensures of part of_is c.part.ensures in
    let old_is = c.with_command-old.ensures some migrate some_is c.migrate.ensures in
    let again_is = c.with_command-again.ensures old rekey old_is c.rekey.ensures in
    let whole_is = c.with_command-whole.ensures again verify again_is c.verify.ensures in
    c.with_command.ensures whole inspect whole_is c.inspect.ensures
