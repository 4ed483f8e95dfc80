use Rattle.std.specs.Prelude.{◌≡◌, codes, true, false, refl}
use Rattle.std.proofs.Common.{◌∙◌, sym, ap, ap₂, subst}
use Rattle.clap.specs.Matches.{found_of}
use Rattle.clap.specs.Walk.{rows_of}
use Rattle.sazh_command.specs.Asked.{IsAnswer, command_value}
use Rattle.sazh_command.specs.Found.{given_value, is_given}
use Rattle.sazh_command.specs.Synopsis.{asked_alone, asked_by, has_words}
use Rattle.sazh_command.proofs.Rows.{command_met, no_command_met, words_met}
use Rattle.sazh_command.proofs.parsing.asked_by.Goals as goal

pub returns-then-args_present : goal.returns-then-args_present
returns-then-args_present c =
    let m = c.args.matches.now in
    let met = command_met m c.in-Some.name.now (rows_of (found_of c.in-Some.inner.now)) c.in-Some.ensures.name c.in-Some.ensures.rows in
    let present : has_words (rows_of (found_of m)) ≡ true = sym (words_met (found_of m)) ∙ sym c.args_present.ensures ∙ c.if-args_present.true in
    rw (met, present) refl

pub returns-else-args_present : goal.returns-else-args_present
returns-else-args_present c =
    let m = c.args.matches.now in
    let met = command_met m c.in-Some.name.now (rows_of (found_of c.in-Some.inner.now)) c.in-Some.ensures.name c.in-Some.ensures.rows in
    let absent : has_words (rows_of (found_of m)) ≡ false = sym (words_met (found_of m)) ∙ sym c.args_present.ensures ∙ c.if-args_present.false in
    rw (met, absent) c.asked_named.ensures

pub returns-in_ok-given-in-None : goal.returns-in_ok-given-in-None
returns-in_ok-given-in-None c =
    let m = c.args.matches.now in
    let rows = rows_of (found_of m) in
    let none = no_command_met m c.in-None.ensures.rows in
    let given = given_value c.in_ok-given-in-None.given in
    let flags : asked_alone c.is_given.result c.is_given-in-None.result given
    ≡ asked_alone (is_given (codes "encrypt") rows) (is_given (codes "decrypt") rows) given =
    ap₂ (λ e d. asked_alone e d given) c.is_given.ensures c.is_given-in-None.ensures in
    let all = flags ∙ ap (asked_alone (is_given (codes "encrypt") rows) (is_given (codes "decrypt") rows)) c.in_ok-given-in-None.ensures in
    subst (IsAnswer command_value c.asked_alone.result) (all ∙ sym (ap (asked_by rows) none)) c.asked_alone.ensures
