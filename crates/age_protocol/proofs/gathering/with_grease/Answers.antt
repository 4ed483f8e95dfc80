use Rattle.std.proofs.Common.{sym, subst}
use Rattle.age_v1.specs.Header.{KeepsScryptRule}
use Rattle.age_protocol.proofs.Rule.{rule_with, rule_without}
use Rattle.age_protocol.proofs.gathering.with_grease.Goals as goal

pub returns-in_ok-push-in-Some-clause-rule : goal.returns-in_ok-push-in-Some-clause-rule
returns-in_ok-push-in-Some-clause-rule c =
    subst (λ all. KeepsScryptRule all) (sym c.in_ok-push-in-Some.ensures.items)
    (rule_with c.args.stanzas.items c.into_stanza.result c.requires.none c.into_stanza.ensures.tag)

pub returns-in-None-2-clause-rule : goal.returns-in-None-2-clause-rule
returns-in-None-2-clause-rule c = rule_without c.args.stanzas.items c.requires.none
