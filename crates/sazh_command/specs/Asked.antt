-- What a command line asks for, and what is wrong with one, apart from where the bytes of the words lie in memory.
use Rattle.std.specs.Prelude.{◌≡◌, ℕ, Bool, List, map, string_bytes, Option, option_map, Result, Ok, Err, ⊤}
use Rattle.sazh_command.specs.declared.names.Operand.{Operand}
use Rattle.sazh_command.specs.declared.command.Recipient.{Recipient}
use Rattle.sazh_command.specs.declared.command.Recipient.TheVariants as recipient
use Rattle.sazh_command.specs.declared.command.Recipients.{Recipients}
use Rattle.sazh_command.specs.declared.command.Recipients.TheVariants as recipients
use Rattle.sazh_command.specs.declared.command.Identities.{Identities}
use Rattle.sazh_command.specs.declared.command.Identities.TheVariants as identities
use Rattle.sazh_command.specs.declared.command.Opening.{Opening}
use Rattle.sazh_command.specs.declared.command.Output.{Output}
use Rattle.sazh_command.specs.declared.command.Command.{Command}
use Rattle.sazh_command.specs.declared.command.Command.TheVariants as command
use Rattle.sazh_command.specs.declared.mistakes.UsageError.{UsageError}
use Rattle.sazh_command.specs.declared.mistakes.UsageError.TheVariants as mistake
use Rattle.sazh_command.specs.declared.mistakes.Stop.{Stop}
use Rattle.sazh_command.specs.declared.mistakes.Stop.TheVariants.{Usage, Memory}

-- a recipient by its text, the recipients in a file, or those of the identities in one
pub data RecipientValue : Type 0 where
  Text : List ℕ → RecipientValue
  File : List ℕ → RecipientValue
  IdentityFile : List ℕ → RecipientValue

-- recipients in their order, or a file with a passphrase
pub data RecipientsValue : Type 0 where
  Listed : List RecipientValue → RecipientsValue
  ToPassphraseFile : List ℕ → RecipientsValue

-- files of identities in the order of the words, with a file that has the passphrase of those that are encrypted, or such a file alone
pub data IdentitiesValue : Type 0 where
  Files : List (List ℕ) → IdentitiesValue
  ProtectedFiles : List (List ℕ) → List ℕ → IdentitiesValue
  WithPassphraseFile : List ℕ → IdentitiesValue

-- who decrypts, and how many bytes a header may have
pub record OpeningValue : Type 0 where
  pub identities : IdentitiesValue
  pub header_limit : ℕ

-- the name of the output where one is given, whether a file that is there may be replaced, and whether a new one isn't written through
pub record OutputValue : Type 0 where
  pub name : Option (List ℕ)
  pub overwrite : Bool
  pub skip_sync : Bool

-- a command: `Keygen output quiet`, `RecipientsOf input output`, `Encrypt recipients armored input output quiet`,
-- `Decrypt opening input output quiet`, `Part opening place count input quiet`, `Migrate opening input output quiet`,
-- `Rekey opening recipients armored input output quiet`, `Verify opening input quiet`, `Inspect identities header_limit json input`
pub data CommandValue : Type 0 where
  Help : CommandValue
  Version : CommandValue
  Keygen : OutputValue → Bool → CommandValue
  RecipientsOf : List ℕ → OutputValue → CommandValue
  Encrypt : RecipientsValue → Bool → List ℕ → OutputValue → Bool → CommandValue
  Decrypt : OpeningValue → List ℕ → OutputValue → Bool → CommandValue
  Part : OpeningValue → ℕ → ℕ → List ℕ → Bool → CommandValue
  Migrate : OpeningValue → List ℕ → OutputValue → Bool → CommandValue
  Rekey : OpeningValue → List RecipientValue → Bool → List ℕ → OutputValue → Bool → CommandValue
  Verify : OpeningValue → List ℕ → Bool → CommandValue
  Inspect : Option IdentitiesValue → ℕ → Bool → List ℕ → CommandValue

-- what is wrong
pub data UsageErrorValue : Type 0 where
  NoCommand : UsageErrorValue
  Words : List ℕ → UsageErrorValue
  NoPassphraseFile : UsageErrorValue
  HoldsSecret : UsageErrorValue
  UnknownCommand : List ℕ → UsageErrorValue
  WordBeforeCommand : UsageErrorValue
  EncryptAndDecrypt : UsageErrorValue
  EncryptingOption : UsageErrorValue
  DecryptingOption : UsageErrorValue
  LimitWithoutDecrypting : UsageErrorValue
  PassphraseBesideRecipients : UsageErrorValue
  NoRecipient : UsageErrorValue
  NoIdentity : UsageErrorValue
  PlaceOrCountAlone : UsageErrorValue
  MissingOperand : Operand → UsageErrorValue
  NotANumber : Operand → List ℕ → UsageErrorValue
  ExtraOperand : List ℕ → UsageErrorValue

-- The same of what the program holds.

abbrev pub recipient_value : Recipient → RecipientValue
recipient_value (recipient.Text text) = Text (string_bytes text)
recipient_value (recipient.File name) = File (string_bytes name)
recipient_value (recipient.IdentityFile name) = IdentityFile (string_bytes name)

abbrev pub recipients_value : Recipients → RecipientsValue
recipients_value (recipients.Listed listed) = Listed (map recipient_value listed.items)
recipients_value (recipients.PassphraseFile name) = ToPassphraseFile (string_bytes name)

abbrev pub identities_value : Identities → IdentitiesValue
identities_value (identities.Files names) = Files (map string_bytes names.items)
identities_value (identities.ProtectedFiles names passphrase) = ProtectedFiles (map string_bytes names.items) (string_bytes passphrase)
identities_value (identities.PassphraseFile name) = WithPassphraseFile (string_bytes name)

abbrev pub opening_value : Opening → OpeningValue
opening_value opening = record { identities = identities_value opening.identities; header_limit = opening.header_limit }

abbrev pub output_value : Output → OutputValue
output_value output = record { name = option_map string_bytes output.name; overwrite = output.overwrite; skip_sync = output.skip_sync }

abbrev pub command_value : Command → CommandValue
command_value (command.Help text) = Help
command_value (command.Version text) = Version
command_value (command.Keygen output quiet) = Keygen (output_value output) quiet
command_value (command.RecipientsOf input output) = RecipientsOf (string_bytes input) (output_value output)
command_value (command.Encrypt recipients armored input output quiet) =
    Encrypt (recipients_value recipients) armored (string_bytes input) (output_value output) quiet
command_value (command.Decrypt opening input output quiet) = Decrypt (opening_value opening) (string_bytes input) (output_value output) quiet
command_value (command.Part opening place count input quiet) = Part (opening_value opening) place count (string_bytes input) quiet
command_value (command.Migrate opening input output quiet) = Migrate (opening_value opening) (string_bytes input) (output_value output) quiet
command_value (command.Rekey opening recipients armored input output quiet) =
    Rekey (opening_value opening) (map recipient_value recipients.items) armored (string_bytes input) (output_value output) quiet
command_value (command.Verify opening input quiet) = Verify (opening_value opening) (string_bytes input) quiet
command_value (command.Inspect identities header_limit json input) =
    Inspect (option_map identities_value identities) header_limit json (string_bytes input)

abbrev pub error_value : UsageError → UsageErrorValue
error_value mistake.NoCommand = NoCommand
error_value (mistake.Words text) = Words (string_bytes text)
error_value mistake.NoPassphraseFile = NoPassphraseFile
error_value mistake.HoldsSecret = HoldsSecret
error_value (mistake.UnknownCommand word) = UnknownCommand (string_bytes word)
error_value mistake.WordBeforeCommand = WordBeforeCommand
error_value mistake.EncryptAndDecrypt = EncryptAndDecrypt
error_value mistake.EncryptingOption = EncryptingOption
error_value mistake.DecryptingOption = DecryptingOption
error_value mistake.LimitWithoutDecrypting = LimitWithoutDecrypting
error_value mistake.PassphraseBesideRecipients = PassphraseBesideRecipients
error_value mistake.NoRecipient = NoRecipient
error_value mistake.NoIdentity = NoIdentity
error_value mistake.PlaceOrCountAlone = PlaceOrCountAlone
error_value (mistake.MissingOperand operand) = MissingOperand operand
error_value (mistake.NotANumber operand word) = NotANumber operand (string_bytes word)
error_value (mistake.ExtraOperand word) = ExtraOperand (string_bytes word)

-- an answer, whose value is told by `value`
abbrev pub answer_value : {T U : Type 0} → (T → U) → Result T UsageError → Result U UsageErrorValue
answer_value value (Ok found) = Ok (value found)
answer_value value (Err error) = Err (error_value error)

-- Inside the crate a step may also stop for want of memory, which says nothing of what the words ask for.

abbrev pub StopsAt : {U : Type 0} → Stop → Result U UsageErrorValue → Type 0
StopsAt (Usage error) due = due ≡ Err (error_value error)
StopsAt Memory due = ⊤

-- the answer is the one that is due, or memory was refused
abbrev pub IsAnswer : {T U : Type 0} → (T → U) → Result T Stop → Result U UsageErrorValue → Type 0
IsAnswer value (Ok found) due = due ≡ Ok (value found)
IsAnswer value (Err stop) due = StopsAt stop due

-- what follows, unless something is wrong already
abbrev pub and_then : {T U : Type 0} → (T → Result U UsageErrorValue) → Result T UsageErrorValue → Result U UsageErrorValue
and_then next (Ok found) = next found
and_then next (Err error) = Err error
