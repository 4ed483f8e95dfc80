-- What `clap` answers is what the words ask for, or why they are refused.
use Rattle.std.specs.Prelude.{◌≡◌, ◌==◌, Bool, true, false, List, [], ◌∷◌, length, Result, Ok, Err, refl}
use Rattle.std.proofs.Common.{◌∙◌, sym, ap, ap₂, subst, true≢false}
use Rattle.clap.proofs.OnLiterals.{clap_on_literals}
use Rattle.clap.specs.Matches.{found_of}
use Rattle.clap.specs.Walk.{Text, rows_of}
use Rattle.clap.specs.Kinds.{Kinds, HasKind}
use Rattle.clap.specs.Faults.{fault_of, is_simple_and_free}
use Rattle.clap.specs.Simple.{App, HasMatchesOf, is_simple, matches_of, subcommand_of, subcommand_rows_of}
use Rattle.clap.specs.declared.parser.matches.ArgMatches.{ArgMatches}
use Rattle.clap.specs.declared.error.Error.{Error as ClapError}
use Rattle.sazh_command.specs.declared.command.Command.{Command}
use Rattle.sazh_command.specs.declared.command.Command.TheVariants as command
use Rattle.sazh_command.specs.declared.mistakes.UsageError.{UsageError}
use Rattle.sazh_command.specs.declared.mistakes.UsageError.TheVariants as mistake
use Rattle.sazh_command.specs.App.{sazh}
use Rattle.sazh_command.specs.Asked.{answer_value, command_value}
use Rattle.sazh_command.specs.Synopsis.{asked_by}
use Rattle.sazh_command.specs.Answers.{IsRead, IsReadBy, IsRefusal, command_of}

-- `clap` tells of this command line which matches words have, and which mistakes

simple : is_simple sazh ≡ true
unfolding clap_on_literals
simple = refl

free : is_simple_and_free sazh ≡ true
unfolding clap_on_literals
free = refl

abbrev is_nothing : Kinds → Bool
is_nothing [] = true
is_nothing (k ∷ kinds) = false

read_by : (words : List Text) (kinds : Kinds) (answer : Result Command UsageError) → kinds ≡ [] → answer_value command_value answer ≡ command_of words
    → IsReadBy kinds words answer
read_by words [] answer none is = is
read_by words (k ∷ kinds) answer none is = absurd (true≢false (sym (ap is_nothing none)))

pub read_found : (words : List Text) (app : App) (m : ArgMatches) (answer : Result Command UsageError) → (length words == 0) ≡ false → app ≡ sazh
    → HasMatchesOf app words m → (is_simple_and_free app ≡ true → fault_of app words ≡ [])
    → answer_value command_value answer ≡ asked_by (rows_of (found_of m)) (subcommand_rows_of m) → IsRead words answer
read_found [] app m answer some app_is matches none is = absurd (true≢false some)
read_found (word ∷ words) app m answer some app_is matches none is =
    let simple_app : is_simple app ≡ true = ap is_simple app_is ∙ simple in
    let free_app : is_simple_and_free app ≡ true = ap is_simple_and_free app_is ∙ free in
    let all = word ∷ words in
    let has = matches simple_app in
    read_by all (fault_of sazh all) answer (sym (ap (λ (a : App). fault_of a all) app_is) ∙ none free_app)
    (is ∙ ap₂ asked_by (has.0 ∙ ap (λ (a : App). matches_of a all) app_is) (has.1 ∙ ap (λ (a : App). subcommand_of a all) app_is))

-- an error has a kind
refused : (words : List Text) (kinds : Kinds) (answer : Result Command UsageError) → IsRefusal kinds answer → IsReadBy kinds words answer
refused words [] (Ok (command.Help text)) is = absurd is
refused words [] (Ok (command.Version text)) is = absurd is
refused words [] (Err (mistake.Words text)) is = absurd is.1
refused words [] (Err mistake.NoPassphraseFile) is = absurd is
refused words [] answer is = absurd is
refused words (k ∷ kinds) answer is = is

pub read_refused : (words : List Text) (app : App) (error : ClapError) (answer : Result Command UsageError) → (length words == 0) ≡ false → app ≡ sazh
    → (is_simple_and_free app ≡ true → HasKind (fault_of app words) error) → ((kinds : Kinds) → HasKind kinds error → IsRefusal kinds answer)
    → IsRead words answer
read_refused [] app error answer some app_is kinds told = absurd (true≢false some)
read_refused (word ∷ words) app error answer some app_is kinds told =
    let free_app : is_simple_and_free app ≡ true = ap is_simple_and_free app_is ∙ free in
    let all = word ∷ words in
    refused all (fault_of sazh all) answer (told (fault_of sazh all) (subst (λ (a : App). HasKind (fault_of a all) error) app_is (kinds free_app)))
