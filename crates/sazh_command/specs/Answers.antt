-- The answer to the words of a command line.
use Rattle.std.specs.Prelude.{◌≡◌, ◌≢◌, ◌⊎◌, ℕ, List, [], ◌∷◌, Result, Ok, Err}
use Rattle.clap.specs.Kinds.{Kinds, IsAmong}
use Rattle.clap.specs.Faults.{fault_of}
use Rattle.clap.specs.Simple.{matches_of, subcommand_of}
use Rattle.clap.specs.declared.error.kind.ErrorKind.{ErrorKind}
use Rattle.clap.specs.declared.error.kind.ErrorKind.TheVariants as kind
use Rattle.sazh_command.specs.declared.command.Command.{Command}
use Rattle.sazh_command.specs.declared.command.Command.TheVariants as command
use Rattle.sazh_command.specs.declared.mistakes.UsageError.{UsageError}
use Rattle.sazh_command.specs.declared.mistakes.UsageError.TheVariants as mistake
use Rattle.sazh_command.specs.App.{sazh}
use Rattle.sazh_command.specs.Asked.{CommandValue, UsageErrorValue, answer_value, command_value}
use Rattle.sazh_command.specs.Secrets.{AnyHoldsSecret, NamesSecret}
use Rattle.sazh_command.specs.Synopsis.{asked_by}

-- what the words ask for, as `clap` reads them
abbrev pub command_of : List (List ℕ) → Result CommandValue UsageErrorValue
command_of words = asked_by (matches_of sazh words) (subcommand_of sazh words)

-- a kind of mistake, and no request
abbrev pub IsMistake : ErrorKind → Type 0
IsMistake k = (k ≢ kind.DisplayHelp) × (k ≢ kind.DisplayVersion)

-- what `clap` refuses, for one of these kinds, is told: help and the version are shown where they are asked for
abbrev pub IsRefusal : Kinds → Result Command UsageError → Type 0
IsRefusal kinds (Ok (command.Help text)) = IsAmong kind.DisplayHelp kinds
IsRefusal kinds (Ok (command.Version text)) = IsAmong kind.DisplayVersion kinds
IsRefusal kinds (Err (mistake.Words text)) = (k : ErrorKind) × IsAmong k kinds × IsMistake k
IsRefusal kinds (Err mistake.NoPassphraseFile) = IsAmong kind.InvalidValue kinds
IsRefusal kinds answer = ⊥

-- the words are read: where `clap` has nothing against them, they ask for what `command_of` says
abbrev pub IsReadBy : Kinds → List (List ℕ) → Result Command UsageError → Type 0
IsReadBy [] words answer = answer_value command_value answer ≡ command_of words
IsReadBy (k ∷ kinds) words answer = IsRefusal (k ∷ kinds) answer

abbrev pub IsRead : List (List ℕ) → Result Command UsageError → Type 0
IsRead [] answer = answer ≡ Err mistake.NoCommand
IsRead (word ∷ words) answer = IsReadBy (fault_of sazh (word ∷ words)) (word ∷ words) answer

-- The words are read. Where they are wrong and one holds a secret key, or they are right and name one in the place of a file, that is all
-- that is told.
abbrev pub IsTold : List (List ℕ) → Result Command UsageError → Type 0
IsTold words (Ok command) = (NamesSecret (command_value command) → ⊥) × IsRead words (Ok command)
IsTold words (Err error) =
    ((AnyHoldsSecret words → ⊥) × IsRead words (Err error))
    ⊎ (((error ≡ mistake.HoldsSecret) × AnyHoldsSecret words × ((why : UsageError) × IsRead words (Err why)))
    ⊎ ((error ≡ mistake.HoldsSecret) × ((command : Command) × NamesSecret (command_value command) × IsRead words (Ok command))))
