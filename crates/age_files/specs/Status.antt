-- The numbers of refusals besides those of the library: of texts that name recipients or give a passphrase, and of random bytes.
use Rattle.std.specs.Prelude.{ℕ}
use Rattle.age_slices.specs.Status.{of_file}
use Rattle.sazh_core.specs.declared.error.CommandError.{CommandError}
use Rattle.sazh_core.specs.declared.error.CommandError.TheVariants as command
use Rattle.sazh_core.specs.declared.error.GivenError.{GivenError}
use Rattle.sazh_core.specs.declared.error.GivenError.TheVariants as given
use Rattle.sazh_core.specs.declared.error.IdentitiesError.{IdentitiesError}
use Rattle.sazh_core.specs.declared.error.IdentitiesError.TheVariants as identities
use Rattle.sazh_core.specs.declared.error.PassphraseError.{PassphraseError}
use Rattle.sazh_core.specs.declared.error.PassphraseError.TheVariants as passphrase
use Rattle.sazh_core.specs.declared.error.RandomError.{RandomError}
use Rattle.sazh_core.specs.declared.error.RandomError.TheVariants as random
use Rattle.sazh_core.specs.declared.error.RecipientsError.{RecipientsError}
use Rattle.sazh_core.specs.declared.error.RecipientsError.TheVariants as recipients

-- why there are no random bytes
abbrev pub of_random : RandomError → ℕ
of_random random.NoRandom = 55
of_random random.OutOfMemory = 4

abbrev pub of_command : CommandError → ℕ
of_command (command.Random e) = of_random e
of_command (command.File e) = of_file e

-- why a text names no recipients
abbrev pub of_recipients : RecipientsError → ℕ
of_recipients recipients.NotText = 60
of_recipients (recipients.NotRecipient line) = 61
of_recipients recipients.NoRecipient = 62
of_recipients recipients.OutOfMemory = 4

-- why a text gives no passphrase
abbrev pub of_passphrase : PassphraseError → ℕ
of_passphrase passphrase.NotText = 60
of_passphrase passphrase.Empty = 64
of_passphrase passphrase.OutOfMemory = 4

-- why the recipients of identities aren't told
abbrev pub of_identities : IdentitiesError → ℕ
of_identities (identities.NotIdentity line) = 22
of_identities identities.TooLong = 21
of_identities identities.Plugin = 46
of_identities identities.NoIdentity = 63
of_identities identities.Encrypted = 65
of_identities identities.OutOfMemory = 4

-- of what was given, or of what came of it
abbrev pub of_given : {G C : Type 0} → (G → ℕ) → (C → ℕ) → GivenError G C → ℕ
of_given of_refusal of_error (given.Given e) = of_refusal e
of_given of_refusal of_error (given.Command e) = of_error e
