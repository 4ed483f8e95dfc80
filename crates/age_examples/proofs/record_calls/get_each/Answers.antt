use Rattle.std.specs.Prelude.{slice_get}
use Rattle.std.proofs.Common.{◌+◌, ◌++◌, ◌∷◌, [], ◌∙◌, get_or, subst, sym, take}
use Rattle.std.proofs.lemmas.List.{take_more}
use Rattle.age.specs.Reading.{IsQuiet}
use Rattle.age.specs.ReadingLemmas.{quiet_from}
use Rattle.age.specs.StreamReader.{faults_of}
use Rattle.age_records.specs.Records.{reader_of}
use Rattle.age_examples.specs.RecordAnswers.{Answered}
use Rattle.age_examples.proofs.RecordCalls.{answer-is, answered-more, quiet-before, same-later}
use Rattle.age_examples.proofs.record_calls.get_each.Goals as goal

pub returns-in_err-push-clause-same : goal.returns-in_err-push-clause-same
returns-in_err-push-clause-same g c = same-later c.args.records.now c.loop-index.records c.get.new.self c.loop-index.invariant.same c.get.ensures.same

pub loop-index-preserved : goal.loop-index-preserved
loop-index-preserved g c =
    let before = c.loop-index.invariant in
    let first = before.same.reader in
    let get = c.get.ensures in
    let calls = c.args.calls.now in
    let i = c.loop-index.index-index in
    let index = get_or calls i 0 in
    record {
      same = same-later c.args.records.now c.loop-index.records c.get.new.self before.same get.same;
      answered = λ written told is quiet.
          let answer = answer-is c.get.result (slice_get written index)
          (IsQuiet (faults_of (reader_of c.loop-index.records)) (faults_of (reader_of c.get.new.self)))
          (quiet_from first.faults get.same.reader.faults quiet) (get.written written (first.tells ∙ told) (first.content told ∙ is)) in
          let all = answered-more written (take i calls) c.loop-index.answers.items index c.get.result
          (before.answered written told is (quiet-before first.faults get.same.reader.faults quiet)) answer in
          subst (λ answers. Answered written (take (i + 1) calls) answers) (sym c.in_ok-push.ensures.items)
          (subst (λ xs. Answered written xs (c.loop-index.answers.items ++ c.get.result ∷ []))
          (sym (take_more calls i 0 c.loop-index-test.true)) all);
    }
