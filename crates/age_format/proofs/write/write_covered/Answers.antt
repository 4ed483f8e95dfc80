use Rattle.std.proofs.Common.{subst, arith, ◌++◌}
use Rattle.std.specs.Prelude.{codes}
use Rattle.std.specs.List.{AllByRecursion, flat_map}
use Rattle.std.proofs.lemmas.List.{take_all}
use Rattle.std.proofs.lemmas.Result.{on_ok_weaker}
use Rattle.age_base64.specs.Lines.{line}
use Rattle.age_v1.specs.Stanza.{IsStanza, stanza_text}
use Rattle.age_v1.specs.Header.{version_line}
use Rattle.age_format.proofs.HeaderWriting.{each_more, front_more, front_ends}
use Rattle.age_format.proofs.write.write_covered.Goals as goal

pub loop-stanza-preserved : goal.loop-stanza-preserved
loop-stanza-preserved g c =
    let i = c.loop-stanza.stanza-index in
    let s = c.stanza-item.result in
    let (each, took) = c.loop-stanza.invariant in (
      each_more c.args.stanzas.now i s (omega arith) c.stanza-item.is c.known.ensures each,
      subst (λ x. g.T.Sink.took c.args.out.now x c.write.new.out) (front_more c.args.stanzas.now i s (omega arith) c.stanza-item.is)
          (g.met.T.Sink.joins _ _ _ _ (stanza_text s) took c.in_ok-write.ensures.took),
    )

pub returns-clause-took : goal.returns-clause-took
returns-clause-took g c =
    let all = take_all c.loop-stanza.stanza-index c.args.stanzas.now (omega arith) in
    let took = subst (λ xs. g.T.Sink.took c.args.out.now (line version_line ++ flat_map stanza_text xs) c.loop-stanza.out) all
    c.loop-stanza.invariant.1 in
    on_ok_weaker c.take-2.result
    (λ end. subst (λ x. g.T.Sink.took c.args.out.now x c.take-2.new.self) (front_ends c.args.stanzas.now)
    (g.met.T.Sink.joins _ _ _ _ (codes "---") took end))
    c.take-2.ensures.took

pub returns-clause-each : goal.returns-clause-each
returns-clause-each g c =
    let all = take_all c.loop-stanza.stanza-index c.args.stanzas.now (omega arith) in
    on_ok_weaker c.take-2.result (λ end. subst (λ xs. AllByRecursion IsStanza xs) all c.loop-stanza.invariant.0) c.take-2.ensures.took
