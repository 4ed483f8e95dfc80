use Rattle.age.proofs.DecryptingStreams.{decrypts_part_as}
use Rattle.age.specs.Identities.{IsFileFor}
use Rattle.age_bench.specs.Bench.{bench_seal}
use Rattle.age_bench.specs.Names.{answers_of, gives_of}
use Rattle.age_bench.proofs.Answered.{answers, file_for}
use Rattle.age_bench.proofs.part.at_with.Goals as goal

pub returns : goal.returns
returns g c =
    let with_ = c.args.with in
    decrypts_part_as _ _ _ _ (gives_of with_) _ (answers_of with_) _
    (IsFileFor bench_seal (answers_of with_)) c.args.place c.args.count c.args.reader.now _ c.args.writer.now _ c.at.result
    (λ key stanzas by. answers with_ stanzas _ (_, by)) (λ stanzas answer by. answers with_ stanzas answer (_, by))
    (λ plain file for. file_for with_ plain file for) c.at.ensures
