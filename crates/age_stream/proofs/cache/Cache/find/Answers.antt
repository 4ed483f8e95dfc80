use Rattle.std.proofs.Common.{sym, subst}
use Rattle.age_stream.specs.PrivateCache.{IsKept}
use Rattle.age_stream.proofs.cache.Cache.find.Goals.{then-is_chunk, else-is_chunk}
use Rattle.age_stream.proofs.cache.Cache.find.Goals as goal

pub returns-then-self-number-clause-kept : goal.returns-then-self-number-clause-kept
returns-then-self-number-clause-kept c = λ opened key payload kept. elim c.if-is_chunk.branch [
  | then-is_chunk w ↦ subst (λ s. IsKept opened key payload s) (sym w.self-is) (w.exchange.ensures.kept opened key payload kept)
  | else-is_chunk w ↦ subst (λ s. IsKept opened key payload s) (sym w.self-is) kept
]

pub returns-else-self-number-clause-kept : goal.returns-else-self-number-clause-kept
returns-else-self-number-clause-kept c = λ opened key payload kept. elim c.if-is_chunk.branch [
  | then-is_chunk w ↦ subst (λ s. IsKept opened key payload s) (sym w.self-is) (w.exchange.ensures.kept opened key payload kept)
  | else-is_chunk w ↦ subst (λ s. IsKept opened key payload s) (sym w.self-is) kept
]
