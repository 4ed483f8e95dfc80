-- The program's command line, as `clap` reads one: the rules of each option and operand, and the commands. What building adds, as `--help`
-- and `--version`, and what a word of the command line then is, are `clap`'s definitions.
use Rattle.std.specs.Prelude.{◌≡◌, ℕ, true, false, codes, Some}
use Rattle.clap.specs.Walk.{Rule, Text, rule_of}
use Rattle.clap.specs.Simple.{App, app_of, new_app, new_rule, with_rule, with_subcommand}
use Rattle.clap.specs.declared.builder.action.ArgAction.TheVariants.{Append, SetTrue}
use Rattle.clap.specs.declared.builder.arg.Arg.{Arg}
use Rattle.clap.specs.declared.builder.command.Command.{Command}
use Rattle.clap.specs.declared.builder.command.Command.TheViews.{out-Command}

-- an option whose value is a text, given once at most
abbrev pub text_rule : Text → ℕ → Rule
text_rule id short = record (new_rule id) { short = Some short; long = Some id; value_names = 1 }

-- an option whose values are texts, given any number of times
abbrev pub texts_rule : Text → ℕ → Rule
texts_rule id short = record (text_rule id short) { action = Some Append }

-- an option without a value
abbrev pub flag_rule : Text → ℕ → Rule
flag_rule id short = record (new_rule id) { short = Some short; long = Some id; action = Some SetTrue }

-- the same, with a long name alone
abbrev pub long_flag_rule : Text → Rule
long_flag_rule id = record (new_rule id) { long = Some id; action = Some SetTrue }

-- an option whose value is a number, with a long name alone
abbrev pub number_rule : Text → Rule
number_rule id = record (new_rule id) { long = Some id; value_names = 1 }

-- IN
abbrev pub input_rule : Rule
input_rule = record (new_rule (codes "input")) { value_names = 1 }

-- PLACE, COUNT and IN, or IN alone
abbrev pub operands_rule : Rule
operands_rule = record (new_rule (codes "operands")) { value_names = 1; action = Some Append }

-- -r RECIPIENT, -R FILE and -a
abbrev pub with_encrypting : App → App
with_encrypting app =
    with_rule (with_rule (with_rule app (texts_rule (codes "recipient") 114)) (texts_rule (codes "recipients-file") 82))
    (flag_rule (codes "armor") 97)

-- -i FILE
abbrev pub with_identities : App → App
with_identities app = with_rule app (texts_rule (codes "identity") 105)

-- -p FILE
abbrev pub with_passphrase : App → App
with_passphrase app = with_rule app (text_rule (codes "passphrase-file") 112)

-- --header-limit BYTES
abbrev pub with_header_limit : App → App
with_header_limit app = with_rule app (number_rule (codes "header-limit"))

-- the three of them
abbrev pub with_opening : App → App
with_opening app = with_header_limit (with_passphrase (with_identities app))

-- -o OUT, -f and --no-sync
abbrev pub with_output : App → App
with_output app =
    with_rule (with_rule (with_rule app (text_rule (codes "output") 111)) (flag_rule (codes "force") 102)) (long_flag_rule (codes "no-sync"))

-- -q
abbrev pub with_quiet : App → App
with_quiet app = with_rule app (flag_rule (codes "quiet") 113)

-- sazh keygen, with -o, -f, --no-sync, -q, -y and IN
abbrev pub keygen : App
keygen = with_rule (with_rule (with_quiet (with_output (new_app (codes "keygen")))) (flag_rule (codes "recipients") 121)) input_rule

-- sazh encrypt, with -r, -R, -a, -i, -p, -o, -f, --no-sync, -q and IN
abbrev pub encrypt : App
encrypt = with_rule (with_quiet (with_output (with_passphrase (with_identities (with_encrypting (new_app (codes "encrypt"))))))) input_rule

-- sazh decrypt, with -i, -p, --header-limit, -o, -f, --no-sync, -q and IN
abbrev pub decrypt : App
decrypt = with_rule (with_quiet (with_output (with_opening (new_app (codes "decrypt"))))) input_rule

-- sazh part, with -i, -p, --header-limit, -q, --from, --count and operands
abbrev pub part : App
part =
    with_rule (with_rule (with_rule (with_quiet (with_opening (new_app (codes "part")))) (number_rule (codes "from"))) (number_rule (codes "count")))
    operands_rule

-- sazh migrate, with the options and the operand of `decrypt`
abbrev pub migrate : App
migrate = with_rule (with_quiet (with_output (with_opening (new_app (codes "migrate"))))) input_rule

-- sazh rekey, with those of `decrypt`, and -r, -R and -a
abbrev pub rekey : App
rekey = with_rule (with_quiet (with_output (with_opening (with_encrypting (new_app (codes "rekey")))))) input_rule

-- sazh verify, with -i, -p, --header-limit, -q and IN
abbrev pub verify : App
verify = with_rule (with_quiet (with_opening (new_app (codes "verify")))) input_rule

-- sazh inspect, with -i, -p, --header-limit, --json and IN
abbrev pub inspect : App
inspect = with_rule (with_rule (with_opening (new_app (codes "inspect"))) (long_flag_rule (codes "json"))) input_rule

-- the program's own settings: it has a version and no command `help`, and its name is not among the words
abbrev pub with_settings : App → App
with_settings app =
    record app { top = record app.top { has_version = true; no_binary_name = true; disable_help_subcommand = true } }

-- -e and -d
abbrev pub with_kinds : App → App
with_kinds app = with_rule (with_rule app (flag_rule (codes "encrypt") 101)) (flag_rule (codes "decrypt") 100)

-- sazh without a command: -e, -d, and all that `encrypt` and `decrypt` have
abbrev pub alone : App
alone = with_rule (with_quiet (with_output (with_opening (with_encrypting (with_kinds (with_settings (new_app (codes "sazh")))))))) input_rule

-- the program
abbrev pub sazh : App
sazh =
    with_subcommand (with_subcommand (with_subcommand (with_subcommand (with_subcommand (with_subcommand (with_subcommand (with_subcommand alone
    keygen.top) encrypt.top) decrypt.top) part.top) migrate.top) rekey.top) verify.top) inspect.top

-- The same of what the program tells `clap`.

-- the argument has this rule
abbrev pub IsOption : Rule → Arg → Type 0
IsOption rule arg = (rule_of arg ≡ rule) × (arg.global ≡ false)

-- the command is this one
abbrev pub IsCommand : App → Command → Type 0
IsCommand app command = (app_of command ≡ app) × ((out-Command command).has_globals ≡ false)

-- the command is `old` with more options
abbrev pub Extends : (App → App) → Command → Command → Type 0
Extends more old command = (app_of command ≡ more (app_of old)) × ((out-Command command).has_globals ≡ (out-Command old).has_globals)
