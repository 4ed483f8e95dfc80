use Rattle.std.proofs.Common.{◌≡◌, ◌-◌, ◌∙◌, length, take, ap, sym, subst, arith}
use Rattle.age_bech32.specs.Symbols.{AreSymbols, values_of}
use Rattle.age_bech32.specs.Remainder.{remainder, remainder_after, expanded}
use Rattle.age_bech32.specs.Groups.{IsRegrouped, bytes_of_groups}
use Rattle.age_bech32.specs.Bech32.{IsPayload}
use Rattle.age_bech32.specs.Refusals.{AreNoGroups}
use Rattle.age_bech32.proofs.Payloads.{no_symbols, wrong_check, no_groups, read}
use Rattle.age_bech32.proofs.reading.groups_in.Goals as goal

pub returns-in_default : goal.returns-in_default
returns-in_default c = no_symbols c.args.prefix.now c.args.rest.now c.in_default.ensures

pub returns-then-sum-ne-CLOSED : goal.returns-then-sum-ne-CLOSED
returns-then-sum-ne-CLOSED c =
    wrong_check c.args.prefix.now c.args.rest.now c.in-Some.ensures.0
    (λ e. c.if-sum-ne-CLOSED.true (c.in-Some.ensures.1
    ∙ ap (λ s. remainder_after s (values_of c.args.rest.now)) c.remainder_of_prefix.ensures.value ∙ e))

pub returns-then-not-are_groups : goal.returns-then-not-are_groups
returns-then-not-are_groups c =
    let mid = length c.args.rest.now - 6 in
    no_groups c.args.prefix.now c.args.rest.now c.in-Some.ensures.0 mid (omega arith)
    (subst (λ g. AreNoGroups (values_of g)) c.split_at.ensures.front c.if-not-are_groups.ensures)

pub returns : goal.returns
returns c =
    let mid = length c.args.rest.now - 6 in
    let closed : remainder_after (remainder (expanded c.args.prefix.now)) (values_of c.args.rest.now) ≡ 1 =
    ap (λ s. remainder_after s (values_of c.args.rest.now)) (sym c.remainder_of_prefix.ensures.value) ∙ sym c.in-Some.ensures.1
    ∙ c.if-sum-ne-CLOSED.false in
    let front : c.split_at.result.0.now ≡ take mid c.args.rest.now = c.split_at.ensures.front in
    subst (λ g. AreSymbols g × IsPayload c.args.prefix.now c.args.rest.now (bytes_of_groups (values_of g))) (sym front)
    (read c.args.prefix.now c.args.rest.now c.in-Some.ensures.0 mid (omega arith) closed (bytes_of_groups (values_of (take mid c.args.rest.now)))
    (subst (λ g. IsRegrouped (bytes_of_groups (values_of g)) (values_of g)) front c.if-not-are_groups.ensures))
