use Rattle.std.specs.Prelude.{◌≡◌, codes, true, false}
use Rattle.std.proofs.Common.{◌∙◌, ap}
use Rattle.clap.specs.Simple.{new_app, app_of, app_of_fields, on_top}
use Rattle.clap.specs.declared.builder.command.Command.TheViews.{out-Command}
use Rattle.sazh_command.specs.App.{with_settings}
use Rattle.sazh_command.proofs.app.titled.Goals as goal

pub returns : goal.returns
returns c =
    let bare = with_settings (new_app (codes "sazh")) in
    let versioned : app_of c.version.result ≡ on_top (λ s. record s { has_version = true }) (app_of c.new.result) =
    ap app_of_fields c.version.ensures in
    let told : app_of c.about.result ≡ app_of c.version.result = ap app_of_fields c.about.ensures in
    let used : app_of c.override_usage.result ≡ app_of c.about.result = ap app_of_fields c.override_usage.ensures in
    let after : app_of c.after_help.result ≡ app_of c.override_usage.result = ap app_of_fields c.after_help.ensures in
    let nameless : app_of c.no_binary_name.result ≡ on_top (λ s. record s { no_binary_name = true }) (app_of c.after_help.result) =
    ap app_of_fields c.no_binary_name.ensures in
    let helpless : app_of c.disable_help_subcommand.result
    ≡ on_top (λ s. record s { disable_help_subcommand = true }) (app_of c.no_binary_name.result) =
    ap app_of_fields c.disable_help_subcommand.ensures in
    let same : app_of c.after_help.result ≡ on_top (λ s. record s { has_version = true }) (new_app (codes "sazh")) =
    after ∙ used ∙ told ∙ versioned ∙ ap (on_top (λ s. record s { has_version = true })) c.new.ensures.app in
    let bare_app : app_of c.disable_help_subcommand.result ≡ bare =
    helpless ∙ ap (on_top (λ s. record s { disable_help_subcommand = true }))
    (nameless ∙ ap (on_top (λ s. record s { no_binary_name = true })) same) in
    let local : (out-Command c.disable_help_subcommand.result).has_globals ≡ false =
    ap (λ f. f.has_globals) c.disable_help_subcommand.ensures ∙ ap (λ f. f.has_globals) c.no_binary_name.ensures
    ∙ ap (λ f. f.has_globals) c.after_help.ensures
    ∙ ap (λ f. f.has_globals) c.override_usage.ensures ∙ ap (λ f. f.has_globals) c.about.ensures ∙ ap (λ f. f.has_globals) c.version.ensures
    ∙ c.new.ensures.local in
    (bare_app, local)
