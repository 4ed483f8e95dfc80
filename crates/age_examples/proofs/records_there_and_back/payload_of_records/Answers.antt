use Rattle.std.proofs.Common.{◌++◌, ◌∙◌, ◌^◌, ap, inl, inr, length, map, refl, vec_items}
use Rattle.std.proofs.lemmas.Bool.{cases_lt}
use Rattle.std.proofs.lemmas.Result.{IfOk-weaker}
use Rattle.age.specs.Payload.{payload}
use Rattle.age_records.specs.Text.{records_text}
use Rattle.age_examples.proofs.records_there_and_back.payload_of_records.Goals as goal

pub returns-clause-made : goal.returns-clause-made
returns-clause-made g c =
    let text = records_text (map vec_items c.args.records.now) in
    elim (cases_lt (2 ^ 60) (length text)) [
      | inl long ↦ let refused = (c.in-Ok-write_records.ensures.past_limit long).0 in absurd (cc)
      | inr fits ↦ IfOk-weaker c.finish.result _ _ (λ sealed is. record {
        is_payload = is ∙ ap (λ xs. xs ++ payload g.S.Suite.seal_of c.args.key text) c.new.ensures.items;
        bytes = c.in-Ok-write_records.ensures.bytes fits;
        within = fits;
      })
          (c.finish.ensures.ok refl c.in-Ok.payload c.args.key text c.new.result c.in-Ok.ensures.made
          ((c.in-Ok-write_records.ensures.writes fits).writes.takes_all refl))
    ]
