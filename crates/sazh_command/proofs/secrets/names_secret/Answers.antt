use Rattle.std.specs.Prelude.{◌≡◌, ◌↔◌, true, map}
use Rattle.std.proofs.Common.{subst}
use Rattle.sazh_command.specs.Asked.{opening_value, output_value, recipient_value}
use Rattle.sazh_command.specs.Secrets.{AnyFileHoldsSecret, FilesNameSecret, OpeningNamesSecret}
use Rattle.sazh_command.proofs.Either.{either}
use Rattle.sazh_command.proofs.secrets.names_secret.Goals as goal

pub returns-in-Encrypt : goal.returns-in-Encrypt
returns-in-Encrypt c =
    let files = c.files_name_secret-in_files in
    rw c.in-Encrypt.is (either c.recipients_name_secret-in_keys.result files.result _ _ c.recipients_name_secret-in_keys.ensures
    (subst (λ w. (files.result ≡ true) ↔ FilesNameSecret w (output_value c.in-Encrypt.output)) c.as_str-in-Encrypt.ensures.value files.ensures))

pub returns-in-Rekey : goal.returns-in-Rekey
returns-in-Rekey c =
    let call = c.opening_names_secret-in_others in
    let files = c.any_file_holds_secret-in_recipients in
    rw c.in-Rekey.is (either files.result call.result _ _
    (subst (λ l. (files.result ≡ true) ↔ AnyFileHoldsSecret (map recipient_value l)) c.as_slice.ensures.value files.ensures)
    (subst (λ w. (call.result ≡ true) ↔ OpeningNamesSecret (opening_value c.in-Rekey.opening) w (output_value c.in-Rekey.output))
    c.as_str-in-Rekey.ensures.value call.ensures))

pub returns-in-Decrypt : goal.returns-in-Decrypt
returns-in-Decrypt c =
    let call = c.opening_names_secret in
    rw c.in-Decrypt.is (subst (λ w. (call.result ≡ true) ↔ OpeningNamesSecret (opening_value c.in-Decrypt.opening) w
    (output_value c.in-Decrypt.output))
    c.as_str-in-Decrypt.ensures.value call.ensures)

pub returns-in-Migrate : goal.returns-in-Migrate
returns-in-Migrate c =
    let call = c.opening_names_secret-in-Migrate in
    rw c.in-Migrate.is (subst (λ w. (call.result ≡ true) ↔ OpeningNamesSecret (opening_value c.in-Migrate.opening) w
    (output_value c.in-Migrate.output))
    c.as_str-in-Migrate.ensures.value call.ensures)
