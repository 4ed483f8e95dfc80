-- A command with one option, one part or one command more.
use Rattle.std.specs.Prelude.{◌≡◌, ◌||◌, Bool, true, false, Result, Ok, Err, IfOk, refl}
use Rattle.std.proofs.Common.{◌∙◌, ap, ap₂}
use Rattle.clap.specs.Walk.{Rule}
use Rattle.clap.specs.Simple.{App, with_rule, with_subcommand}
use Rattle.clap.specs.Built.{AddsArg, AddsSubcommand}
use Rattle.clap.specs.declared.builder.arg.Arg.{Arg}
use Rattle.clap.specs.declared.builder.command.Command.{Command}
use Rattle.sazh_command.specs.App.{IsOption, IsCommand, Extends}

or_false : (a b : Bool) → b ≡ false → (a || b) ≡ a
or_false true b e = refl
or_false false b e = e

both_false : (a b : Bool) → a ≡ false → b ≡ false → (a || b) ≡ false
both_false a b is_a is_b = or_false a b is_b ∙ is_a

pub itself : (command : Command) → Extends (λ app. app) command command
itself command = (refl, refl)

pub extended : (more : App → App) (first old new : Command) (arg : Arg) (rule : Rule)
    → Extends more first old → IsOption rule arg → AddsArg old arg new → Extends (λ app. with_rule (more app) rule) first new
extended more first old new arg rule is option added =
    (added.shape option.1 ∙ ap₂ with_rule is.0 option.0, added.globals ∙ or_false _ arg.global option.1 ∙ is.1)

-- the same of what a call may give
pub extends : {E : Type 0} (more : App → App) (first old : Command) (arg : Arg) (rule : Rule) (result : Result Command E)
    → Extends more first old → IsOption rule arg → IfOk result (λ new. AddsArg old arg new)
    → IfOk result (Extends (λ app. with_rule (more app) rule) first)
extends more first old arg rule (Ok new) is option added = extended more first old new arg rule is option added
extends more first old arg rule (Err error) is option added = tt

-- a command that is known

pub with_more : (more : App → App) (app : App) (old new : Command) → IsCommand app old → Extends more old new → IsCommand (more app) new
with_more more app old new is extends = (extends.0 ∙ ap more is.0, extends.1 ∙ is.1)

pub with_option : (app : App) (old new : Command) (arg : Arg) (rule : Rule)
    → IsCommand app old → IsOption rule arg → AddsArg old arg new → IsCommand (with_rule app rule) new
with_option app old new arg rule is option added =
    (added.shape option.1 ∙ ap₂ with_rule is.0 option.0, added.globals ∙ both_false _ arg.global is.1 option.1)

pub with_options : {E : Type 0} (app : App) (old : Command) (arg : Arg) (rule : Rule) (result : Result Command E)
    → IsCommand app old → IsOption rule arg → IfOk result (λ new. AddsArg old arg new) → IfOk result (IsCommand (with_rule app rule))
with_options app old arg rule (Ok new) is option added = with_option app old new arg rule is option added
with_options app old arg rule (Err error) is option added = tt

pub with_command : (app below : App) (old sub new : Command)
    → IsCommand app old → IsCommand below sub → AddsSubcommand old sub new → IsCommand (with_subcommand app below.top) new
with_command app below old sub new is sub_is added =
    (added.shape sub_is.1 ∙ ap₂ with_subcommand is.0 (ap (λ (a : App). a.top) sub_is.0), added.globals ∙ both_false _ _ is.1 sub_is.1)

pub with_commands : {E : Type 0} (app below : App) (old sub : Command) (result : Result Command E)
    → IsCommand app old → IsCommand below sub → IfOk result (λ new. AddsSubcommand old sub new)
    → IfOk result (IsCommand (with_subcommand app below.top))
with_commands app below old sub (Ok new) is sub_is added = with_command app below old sub new is sub_is added
with_commands app below old sub (Err error) is sub_is added = tt
