use Rattle.std.specs.Prelude.{◌≡◌, ℕ, List, [], Ok, codes}
use Rattle.std.proofs.Common.{◌∙◌, ap, inl, inr}
use Rattle.age.specs.EncryptErrors.{OutOfMemory}
use Rattle.age.specs.Recipients.{Wrapped}
use Rattle.age.specs.Identities.{Steady, FirstOf}
use Rattle.age.specs.Belonging.{BelongsTo}
use Rattle.age.specs.BelongingInTurn.{by_stanza}
use Rattle.age.proofs.Tags.{other_tag}
use Rattle.age.proofs.Outcomes.{same_value, no_refusal}
use Rattle.age_bench.specs.Recipient.{BenchAsks, BenchWraps, bench_stanza, bench_wrapped, has_other_tag}
use Rattle.age_bench.proofs.Unwrapped.{over_other, of_own}
use Rattle.age_bench.proofs.laws.bench_pair.Goals as goal

wraps_one : (file_key draws left : List ℕ) (wrapped : Wrapped) → BenchWraps file_key draws (Ok wrapped) left → wrapped ≡ bench_wrapped file_key
wraps_one file_key draws left wrapped (inl made) = same_value wrapped (bench_wrapped file_key) made.0
wraps_one file_key draws left wrapped (inr want) = no_refusal wrapped OutOfMemory want.0

module _ {R I : Type 0} where
  pair : (recipient : R) (identity : I) → BelongsTo (λ r. BenchWraps) (FirstOf (Steady (λ i. BenchAsks))) has_other_tag recipient identity
  pair recipient identity =
      by_stanza (Steady (λ i. BenchAsks)) (λ r. BenchWraps) has_other_tag recipient identity
      (λ s answer after strange asked. inl (asked.0 ∙ over_other s (other_tag s.tag (codes "bench") strange), asked.1))
      (λ file_key wrapped sixteen wraps_so.
      let (draws, left, made) = wraps_so in
      let is : wrapped ≡ bench_wrapped file_key = wraps_one file_key draws left wrapped made in
      (bench_stanza file_key, [], ap (λ w. w.stanzas) is, λ answer after asked. inl (asked.0 ∙ of_own file_key sixteen)))

pub returns : goal.returns
returns c = pair c.args.recipient.now c.args.identity.now
