use Rattle.std.proofs.Common.{rules, ◌∙◌, ◌^◌, ◌<◌, ap, arith, inl, inr, length, refl, sym}
use Rattle.std.proofs.lemmas.Option.{slice_get_past}
use Rattle.age_records.specs.Text.{count_of, record_at, records_text}
use Rattle.age_records.proofs.Honest.{both-ways, missing-back, read-back}
use Rattle.age_records.proofs.Spelled.{count-is}
use Rattle.age_records.proofs.reading.Records.get.Goals as goal

pub returns-then-index-self : goal.returns-then-index-self
returns-then-index-self g c =
    let counted = c.args.self.now.counted in
    record {
      same = search rules;
      opens = omega arith;
      opens_few = tt;
      beyond = λ past. (refl, refl);
      refused = search rules;
      why = tt;
      narrows = tt;
      named = λ told. tt;
      exact = λ told well. tt;
      written = λ records told is quiet.
          let holds = counted.holds told (ap (λ s. s.ends_well) is) in
          let short : length (records_text records) < 2 ^ 64 = omega (arith, counted.fits, holds.whole, ap (λ s. length s.bytes) is) in
          let count = holds.counted ∙ ap (λ s. count_of s.bytes) is ∙ count-is records short in
          inr (refl, slice_get_past records c.args.index (omega (arith, count, c.if-index-self.true)));
    }

pub returns : goal.returns
returns g c =
    let did = c.record_in.ensures in
    let counted = c.args.self.now.counted in
    record {
      same = record { count = refl; total = refl; reader = did.same };
      opens = did.opens;
      opens_few = did.opens_few;
      beyond = λ past. absurd (omega (arith, past, c.if-index-self.false));
      refused = did.refused;
      why = did.why;
      narrows = did.narrows;
      named = did.named;
      exact = did.value;
      written = λ records told is.
          let well = ap (λ s. s.ends_well) is in
          let holds = counted.holds told well in
          let short : length (records_text records) < 2 ^ 64 = omega (arith, counted.fits, holds.whole, ap (λ s. length s.bytes) is) in
          let text = ap (λ s. record_at s.bytes c.args.index) is in
          both-ways c.record_in.result _ _ _ _ (did.value told well) did.refused
          (λ bytes value. read-back records c.args.index bytes.items short (sym text ∙ value))
          (λ e refused quiet. elim (refused.cause told well quiet) [
            | inl memory ↦ inl memory
            | inr why ↦ inr (missing-back records c.args.index e short (sym text ∙ why))
          ]);
    }
