use Rattle.std.proofs.Common.{◌∙◌, ◌^◌, ◌<◌, ap, arith, inl, inr, length, sym, subst}
use Rattle.age_records.specs.Text.{HoldsRecords, count_of, records_text}
use Rattle.age_records.proofs.Honest.{never-failing}
use Rattle.age_records.proofs.Spelled.{count-is, holds}
use Rattle.age_records.proofs.reading.Records.open.Goals as goal

pub returns-in-Err : goal.returns-in-Err
returns-in-Err g c =
    let refused = c.in-Err.ensures.refused in
    let quiet = never-failing g.R.Read.faults c.args.reader.source.inner c.count_in.new.reader.source.inner in
    record {
      same = tt;
      opens = tt;
      why = c.in-Err.ensures.why;
      narrows = tt;
      says = λ told. tt;
      damaged = refused.stands;
      exact = λ told well never.
          elim (refused.cause told well (quiet never)) [ inl memory ↦ inl memory | inr is ↦ inr (is, refused.damaged told well is) ];
      written = λ records told is never.
          let well = ap (λ s. s.ends_well) is in
          let short : length (records_text records) < 2 ^ 64 = omega (arith, c.known_short.ensures told, ap (λ s. length s.bytes) is) in
          elim (refused.cause told well (quiet never)) [
            | inl memory ↦ memory
            | inr damaged ↦ absurd (refused.damaged told well damaged (subst (λ s. HoldsRecords s.bytes) (sym is) (holds records short)))
          ];
    }

pub returns-in-Ok : goal.returns-in-Ok
returns-in-Ok g c =
    let did = c.in-Ok.ensures in
    record {
      same = did.same;
      opens = did.opens;
      why = tt;
      narrows = did.narrows;
      says = did.says;
      damaged = λ told. tt;
      exact = λ told well.
          let has = did.counted.holds told well in
          (record { whole = omega (arith, has.counted, has.ended, has.whole) }, has.counted);
      written = λ records told is.
          let short : length (records_text records) < 2 ^ 64 = omega (arith, c.known_short.ensures told, ap (λ s. length s.bytes) is) in
          (did.counted.holds told (ap (λ s. s.ends_well) is)).counted ∙ ap (λ s. count_of s.bytes) is ∙ count-is records short;
    }
