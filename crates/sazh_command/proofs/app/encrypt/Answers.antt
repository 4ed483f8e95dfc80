use Rattle.std.specs.Prelude.{codes}
use Rattle.clap.specs.Simple.{new_app}
use Rattle.sazh_command.specs.App.{input_rule, with_encrypting, with_identities, with_passphrase, with_output, with_quiet}
use Rattle.sazh_command.proofs.Apps.{with_more, with_options}
use Rattle.sazh_command.proofs.app.encrypt.Goals as goal

pub returns : goal.returns
returns c =
    let bare = new_app (codes "encrypt") in
    let to = with_more with_encrypting bare _ c.in_ok-to.to c.named-encrypt.ensures c.in_ok-to.ensures in
    let of = with_more with_identities (with_encrypting bare) _ c.in_ok-of.of to c.in_ok-of.ensures in
    let under = with_more with_passphrase (with_identities (with_encrypting bare)) _ c.in_ok-under.under of c.in_ok-under.ensures in
    let out = with_more with_output (with_passphrase (with_identities (with_encrypting bare))) _ c.in_ok-out.out under c.in_ok-out.ensures in
    let quiet = with_more with_quiet (with_output (with_passphrase (with_identities (with_encrypting bare)))) _ c.in_ok-with_quiet.field-0 out
    c.in_ok-with_quiet.ensures in
    with_options (with_quiet (with_output (with_passphrase (with_identities (with_encrypting bare))))) _ c.input.result input_rule c.arg.result quiet
    c.input.ensures c.arg.ensures
