-- What the rows of a command's matches give: `clap` has a row for each option and operand that was met, with its values in the order of the
-- words.
use Rattle.std.specs.Prelude.{ℕ, Bool, false, List, [], ◌++◌, map, string_bytes, bytes_eq, codes, Option, Some, None, option_map, unwrap_or}
use Rattle.clap.specs.Walk.{Row, first_of, all_of}
use Rattle.sazh_command.specs.declared.found.Given.{Given}
use Rattle.sazh_command.specs.Asked.{RecipientValue, Text, File, recipient_value}

-- what the options and operands of a command line give
pub record GivenValue : Type 0 where
  pub recipients : List RecipientValue
  pub identity_files : List (List ℕ)
  pub passphrase_file : Option (List ℕ)
  pub armored : Bool
  pub overwrite : Bool
  pub skip_sync : Bool
  pub quiet : Bool
  pub publish : Bool
  pub json : Bool
  pub header_limit : Option (List ℕ)
  pub output : Option (List ℕ)
  pub input : Option (List ℕ)
  pub place : Option (List ℕ)
  pub count : Option (List ℕ)
  pub operands : List (List ℕ)

abbrev pub given_value : Given → GivenValue
given_value given = record {
  recipients = map recipient_value given.recipients.items;
  identity_files = map string_bytes given.identity_files.items;
  passphrase_file = option_map string_bytes given.passphrase_file;
  armored = given.armored;
  overwrite = given.overwrite;
  skip_sync = given.skip_sync;
  quiet = given.quiet;
  publish = given.publish;
  json = given.json;
  header_limit = option_map string_bytes given.header_limit;
  output = option_map string_bytes given.output;
  input = option_map string_bytes given.input;
  place = option_map string_bytes given.place;
  count = option_map string_bytes given.count;
  operands = map string_bytes given.operands.items;
}

-- the values of an option
abbrev pub values_in : List ℕ → List Row → List (List ℕ)
values_in id rows = unwrap_or (all_of id rows) []

-- those of -r, and then the files of -R
abbrev pub recipients_in : List Row → List RecipientValue
recipients_in rows = map Text (values_in (codes "recipient") rows) ++ map File (values_in (codes "recipients-file") rows)

-- an option without a value has the value `true` where it is given
abbrev pub is_true : Option (List ℕ) → Bool
is_true None = false
is_true (Some text) = bytes_eq text (codes "true")

abbrev pub is_given : List ℕ → List Row → Bool
is_given id rows = is_true (first_of id rows)

abbrev pub given_of : List Row → GivenValue
given_of rows = record {
  recipients = recipients_in rows;
  identity_files = values_in (codes "identity") rows;
  passphrase_file = first_of (codes "passphrase-file") rows;
  armored = is_given (codes "armor") rows;
  overwrite = is_given (codes "force") rows;
  skip_sync = is_given (codes "no-sync") rows;
  quiet = is_given (codes "quiet") rows;
  publish = is_given (codes "recipients") rows;
  json = is_given (codes "json") rows;
  header_limit = first_of (codes "header-limit") rows;
  output = first_of (codes "output") rows;
  input = first_of (codes "input") rows;
  place = first_of (codes "from") rows;
  count = first_of (codes "count") rows;
  operands = values_in (codes "operands") rows;
}
