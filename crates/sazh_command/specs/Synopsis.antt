-- What a command line asks for, command by command, once `clap` has read its words, and which mistake counts where there are several:
-- options that don't go together come first, and then the recipients or identities, the operands, and the numbers, in this order. A word is a
-- list of bytes.
use Rattle.std.specs.Prelude.{ℕ, Bool, true, false, not, ◌||◌, List, [], ◌∷◌, ◌++◌, map, codes, length, ◌==◌, if◌then◌else◌, Option, Some, None, unwrap_or, is_some, Result, Ok, Err, ⊤}
use Rattle.std.specs.List.{list_any}
use Rattle.clap.specs.Facts.{explicit_source}
use Rattle.clap.specs.Walk.{Row}
use Rattle.sazh_command.specs.declared.names.Operand.{Operand}
use Rattle.sazh_command.specs.declared.names.Operand.TheVariants as operand
use Rattle.sazh_command.specs.declared.names.CommandName.{CommandName}
use Rattle.sazh_command.specs.declared.names.CommandName.TheVariants as name
use Rattle.sazh_command.specs.Asked.{RecipientValue, RecipientsValue, Listed, ToPassphraseFile, IdentityFile, IdentitiesValue, Files, ProtectedFiles, WithPassphraseFile, OpeningValue, OutputValue, CommandValue, Keygen, RecipientsOf, Encrypt, Decrypt, Part, Migrate, Rekey, Verify, Inspect, UsageErrorValue, UnknownCommand, WordBeforeCommand, EncryptAndDecrypt, EncryptingOption, DecryptingOption, LimitWithoutDecrypting, PassphraseBesideRecipients, NoRecipient, NoIdentity, PlaceOrCountAlone, MissingOperand, NotANumber, ExtraOperand, and_then}
use Rattle.sazh_command.specs.Decimal.{number_of}
use Rattle.sazh_command.specs.Names.{command_named}
use Rattle.sazh_command.specs.Found.{GivenValue, given_of, is_given}

-- a file that may be left out, or standard input
abbrev pub name_of : Option (List ℕ) → List ℕ
name_of name = unwrap_or name (codes "-")

-- [-o OUT] [-f] [--no-sync]
abbrev pub output_of : Option (List ℕ) → Bool → Bool → OutputValue
output_of name overwrite skip_sync = record { name = name; overwrite = overwrite; skip_sync = skip_sync }

-- (-r RECIPIENT | -R FILE | -i FILE).., or -p FILE
abbrev pub recipients_of : List RecipientValue → Option (List ℕ) → Result RecipientsValue UsageErrorValue
recipients_of [] None = Err NoRecipient
recipients_of [] (Some file) = Ok (ToPassphraseFile file)
recipients_of (first ∷ more) None = Ok (Listed (first ∷ more))
recipients_of (first ∷ more) (Some file) = Err PassphraseBesideRecipients

-- (-i FILE.. [-p FILE] | -p FILE)
abbrev pub identities_of : List (List ℕ) → Option (List ℕ) → Result IdentitiesValue UsageErrorValue
identities_of [] None = Err NoIdentity
identities_of [] (Some file) = Ok (WithPassphraseFile file)
identities_of (first ∷ more) None = Ok (Files (first ∷ more))
identities_of (first ∷ more) (Some file) = Ok (ProtectedFiles (first ∷ more) file)

-- [-i FILE.. [-p FILE] | -p FILE]
abbrev pub identities_if_given : List (List ℕ) → Option (List ℕ) → Option IdentitiesValue
identities_if_given [] None = None
identities_if_given [] (Some file) = Some (WithPassphraseFile file)
identities_if_given (first ∷ more) None = Some (Files (first ∷ more))
identities_if_given (first ∷ more) (Some file) = Some (ProtectedFiles (first ∷ more) file)

-- (-r RECIPIENT | -R FILE)..
abbrev pub some_recipients : List RecipientValue → Result (List RecipientValue) UsageErrorValue
some_recipients [] = Err NoRecipient
some_recipients (first ∷ more) = Ok (first ∷ more)

-- no operand
abbrev pub no_operand : List (List ℕ) → Result ⊤ UsageErrorValue
no_operand [] = Ok tt
no_operand (word ∷ more) = Err (ExtraOperand word)

-- no IN
abbrev pub no_input : Option (List ℕ) → Result ⊤ UsageErrorValue
no_input None = Ok tt
no_input (Some word) = Err (ExtraOperand word)

-- [IN] of `part`: the standard input where no IN is given
abbrev pub input_of : List (List ℕ) → Result (List ℕ) UsageErrorValue
input_of [] = Ok (codes "-")
input_of (input ∷ more) = and_then (λ none. Ok input) (no_operand more)

-- the value of an option or an operand
abbrev pub number_or_error : Operand → List ℕ → Option ℕ → Result ℕ UsageErrorValue
number_or_error operand word (Some number) = Ok number
number_or_error operand word None = Err (NotANumber operand word)

-- [--header-limit BYTES]: 16 MiB where it isn't given
abbrev pub limit_of : Option (List ℕ) → Result ℕ UsageErrorValue
limit_of None = Ok 16777216
limit_of (Some word) = number_or_error operand.HeaderLimit word (number_of word)

-- (-i FILE.. [-p FILE] | -p FILE) [--header-limit BYTES]
abbrev pub opening_of : List (List ℕ) → Option (List ℕ) → Option (List ℕ) → Result OpeningValue UsageErrorValue
opening_of files passphrase_file limit =
    and_then (λ identities. and_then (λ bytes. Ok (record { identities = identities; header_limit = bytes })) (limit_of limit))
    (identities_of files passphrase_file)

-- both numbers, and what is read
abbrev pub numbered : List ℕ → List ℕ → List ℕ → Result (ℕ × ℕ × List ℕ) UsageErrorValue
numbered place count input =
    and_then (λ start. and_then (λ size. Ok (start, size, input)) (number_or_error operand.Count count (number_of count)))
    (number_or_error operand.Place place (number_of place))

-- PLACE COUNT IN
abbrev pub operands_range : List (List ℕ) → Result (ℕ × ℕ × List ℕ) UsageErrorValue
operands_range [] = Err (MissingOperand operand.Place)
operands_range (place ∷ []) = Err (MissingOperand operand.Count)
operands_range (place ∷ count ∷ []) = Err (MissingOperand operand.Input)
operands_range (place ∷ count ∷ input ∷ more) = and_then (λ none. numbered place count input) (no_operand more)

-- PLACE COUNT IN, or --from PLACE --count N [IN]
abbrev pub range_of : Option (List ℕ) → Option (List ℕ) → List (List ℕ) → Result (ℕ × ℕ × List ℕ) UsageErrorValue
range_of None None operands = operands_range operands
range_of (Some place) (Some count) operands = and_then (λ input. numbered place count input) (input_of operands)
range_of place count operands = Err PlaceOrCountAlone

-- what a command asks for, given this
abbrev pub asked : CommandName → GivenValue → Result CommandValue UsageErrorValue
-- sazh keygen [-q] [-f] [--no-sync] [-o OUT]
-- sazh keygen -y [-f] [--no-sync] [-o OUT] [IN]
asked name.Keygen given =
    if given.publish then Ok (RecipientsOf (name_of given.input) (output_of given.output given.overwrite given.skip_sync))
    else and_then (λ none. Ok (Keygen (output_of given.output given.overwrite given.skip_sync) given.quiet)) (no_input given.input)
-- sazh encrypt (-r RECIPIENT | -R FILE | -i FILE).. [-a] [-q] [-f] [--no-sync] [-o OUT] [IN]
-- sazh encrypt -p FILE [-a] [-q] [-f] [--no-sync] [-o OUT] [IN]
asked name.Encrypt given =
    and_then (λ recipients. Ok (Encrypt recipients given.armored (name_of given.input) (output_of given.output given.overwrite given.skip_sync)
    given.quiet)) (recipients_of (given.recipients ++ map IdentityFile given.identity_files) given.passphrase_file)
-- sazh decrypt (-i FILE.. [-p FILE] | -p FILE) [--header-limit BYTES] [-q] [-f] [--no-sync] [-o OUT] [IN]
asked name.Decrypt given =
    and_then (λ opening. Ok (Decrypt opening (name_of given.input) (output_of given.output given.overwrite given.skip_sync) given.quiet))
    (opening_of given.identity_files given.passphrase_file given.header_limit)
-- sazh part (-i FILE.. [-p FILE] | -p FILE) [--header-limit BYTES] [-q] PLACE COUNT IN
-- sazh part (-i FILE.. [-p FILE] | -p FILE) [--header-limit BYTES] [-q] --from PLACE --count N [IN]
asked name.Part given =
    and_then (λ opening. and_then (λ range. Ok (Part opening range.0 range.1 range.2 given.quiet)) (range_of given.place given.count given.operands))
    (opening_of given.identity_files given.passphrase_file given.header_limit)
-- sazh migrate (-i FILE.. [-p FILE] | -p FILE) [--header-limit BYTES] [-q] [-f] [--no-sync] [-o OUT] [IN]
asked name.Migrate given =
    and_then (λ opening. Ok (Migrate opening (name_of given.input) (output_of given.output given.overwrite given.skip_sync) given.quiet))
    (opening_of given.identity_files given.passphrase_file given.header_limit)
-- sazh rekey (-i FILE.. [-p FILE] | -p FILE) (-r RECIPIENT | -R FILE).. [--header-limit BYTES] [-a] [-q] [-f] [--no-sync] [-o OUT] [IN]
asked name.Rekey given =
    and_then (λ opening. and_then (λ recipients. Ok (Rekey opening recipients given.armored (name_of given.input)
    (output_of given.output given.overwrite given.skip_sync) given.quiet)) (some_recipients given.recipients))
    (opening_of given.identity_files given.passphrase_file given.header_limit)
-- sazh verify (-i FILE.. [-p FILE] | -p FILE) [--header-limit BYTES] [-q] [IN]
asked name.Verify given =
    and_then (λ opening. Ok (Verify opening (name_of given.input) given.quiet))
    (opening_of given.identity_files given.passphrase_file given.header_limit)
-- sazh inspect [-i FILE.. [-p FILE] | -p FILE] [--header-limit BYTES] [--json] [IN]
asked name.Inspect given =
    and_then (λ bytes. Ok (Inspect (identities_if_given given.identity_files given.passphrase_file) bytes given.json (name_of given.input)))
    (limit_of given.header_limit)

-- something says to whom is encrypted
abbrev pub says_to_whom : GivenValue → Bool
says_to_whom given = not (length given.recipients == 0) || is_some given.passphrase_file

-- IN alone, and nothing that says to whom is encrypted, is a command that isn't there
abbrev pub unknown_or_asked : Option (List ℕ) → GivenValue → Result CommandValue UsageErrorValue
unknown_or_asked (Some word) given = if says_to_whom given then asked name.Encrypt given else Err (UnknownCommand word)
unknown_or_asked None given = asked name.Encrypt given

-- a command line without a command, with -e and -d or without
abbrev pub asked_alone : Bool → Bool → GivenValue → Result CommandValue UsageErrorValue
asked_alone true true given = Err EncryptAndDecrypt
asked_alone false true given =
    if given.armored || not (length given.recipients == 0) then Err EncryptingOption else asked name.Decrypt given
asked_alone encrypting false given =
    if is_some given.header_limit then Err LimitWithoutDecrypting
    else if encrypting then asked name.Encrypt given
    else if not (length given.identity_files == 0) then Err DecryptingOption
    else unknown_or_asked given.input given

-- the command of this name
abbrev pub asked_named : List ℕ → Option CommandName → List Row → Result CommandValue UsageErrorValue
asked_named word None rows = Err (UnknownCommand word)
asked_named word (Some command) rows = asked command (given_of rows)

-- an option was met among the words, and isn't there by default alone
abbrev pub has_words : List Row → Bool
has_words rows = list_any (λ row. explicit_source row.source) rows

-- what the matches of the program's own options, and those of the command that was met, ask for
abbrev pub asked_by : List Row → Option (List ℕ × List Row) → Result CommandValue UsageErrorValue
asked_by rows None = asked_alone (is_given (codes "encrypt") rows) (is_given (codes "decrypt") rows) (given_of rows)
asked_by rows (Some met) = if has_words rows then Err WordBeforeCommand else asked_named met.0 (command_named met.0) met.1
