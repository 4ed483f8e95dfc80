-- What the getters of the matches give, by their rows.
use Rattle.std.specs.Prelude.{◌≡◌, ℕ, List, [], map, Option, Some, None, option_map, unwrap_or, is_some, refl, Box}
use Rattle.std.specs.Borrow.{Bor}
use Rattle.std.specs.Box.{box_value}
use Rattle.std.proofs.Common.{◌∙◌, sym, ap, ap₂, true≢false}
use Rattle.clap.specs.Matches.{first_value, matched_of, raw_values, subcommand_name_of}
use Rattle.clap.specs.Walk.{Row, first_of, row_of, rows_of}
use Rattle.clap.specs.Simple.{subcommand_rows, subcommand_rows_of}
use Rattle.clap.specs.declared.parser.matches.ArgMatches.{ArgMatches}
use Rattle.clap.specs.declared.parser.matches.ArgMatches.TheViews.{out-ArgMatches, out-SubCommand}
use Rattle.clap.specs.declared.parser.matches.SubCommand.{SubCommand}
use Rattle.clap.specs.declared.parser.matches.Found.{Found}
use Rattle.clap.proofs.WalkLemmas.{first_value-rows, raw_values-rows, list_any-map}
use Rattle.std.specs.List.{list_any}
use Rattle.clap.specs.Facts.{explicit_source, is_explicit}
use Rattle.sazh_command.specs.Found.{values_in}
use Rattle.sazh_command.specs.Synopsis.{has_words}

-- `get_str`
pub text_found : (found : Found) (id : List ℕ) (given : Option (Bor (List ℕ)))
    → option_map (λ s. s.now) given ≡ first_value found id → option_map (λ s. s.now) given ≡ first_of id (rows_of found)
text_found found id given is = is ∙ first_value-rows found id

-- `get_raw`
pub values_found : (found : Found) (id : List ℕ) (given : Option (Bor (List (Bor (List ℕ)))))
    → option_map (λ s. map (λ v. v.now) s.now) given ≡ option_map raw_values (matched_of found id)
    → unwrap_or (option_map (λ s. map (λ v. v.now) s.now) given) [] ≡ values_in id (rows_of found)
values_found found id given is = ap (λ o. unwrap_or o []) (is ∙ raw_values-rows found id)

name_bridge : {Z : Type 0} (o : Option (Box SubCommand Z))
    → option_map (λ b. (out-SubCommand (box_value b)).name.now) o ≡ option_map (λ p. p.0) (subcommand_rows o)
name_bridge None = refl
name_bridge (Some b) = refl

named : (name : List ℕ) (rows : List Row) (o : Option (List ℕ × List Row)) → Some name ≡ option_map (λ p. p.0) o → Some rows ≡ option_map (λ p. p.1) o
    → o ≡ Some (name, rows)
named name rows None is_name is_rows = absurd (true≢false (ap is_some is_name))
named name rows (Some p) is_name is_rows =
    ap₂ (λ (n : List ℕ) (r : List Row). Some (n, r)) (sym (ap (λ o. unwrap_or o name) is_name)) (sym (ap (λ o. unwrap_or o rows) is_rows))

-- `subcommand`
pub command_met : (m : ArgMatches) (name : List ℕ) (rows : List Row) → Some name ≡ subcommand_name_of m
    → Some rows ≡ option_map (λ p. p.1) (subcommand_rows (out-ArgMatches m).subcommand) → subcommand_rows_of m ≡ Some (name, rows)
command_met m name rows is_name is_rows = named name rows (subcommand_rows_of m) (is_name ∙ name_bridge (out-ArgMatches m).subcommand) is_rows

unnamed : (o : Option (List ℕ × List Row)) → None ≡ option_map (λ p. p.1) o → o ≡ None
unnamed None is = refl
unnamed (Some p) is = absurd (true≢false (ap is_some (sym is)))

-- `args_present`
pub words_met : (found : Found) → list_any is_explicit found.entries.items ≡ has_words (rows_of found)
words_met found = list_any-map (λ row. explicit_source row.source) row_of found.entries.items

pub no_command_met : (m : ArgMatches) → None ≡ option_map (λ p. p.1) (subcommand_rows (out-ArgMatches m).subcommand) → subcommand_rows_of m ≡ None
no_command_met m is = unnamed (subcommand_rows_of m) is
