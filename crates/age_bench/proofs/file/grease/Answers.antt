use Rattle.std.proofs.Common.{◌∙◌, ap, codes}
use Rattle.std.proofs.lemmas.Bool.{false≢true}
use Rattle.age_bench.proofs.file.grease.Goals as goal

pub unreachable-requires-in-None : goal.unreachable-requires-in-None
unreachable-requires-in-None c = false≢true
    (c.in-None.ensures.exactly.1 (codes "agebench", ap (λ s. s.tag) c.in-Some.ensures.value ∙ c.in_ok-tag.ensures.ok))
