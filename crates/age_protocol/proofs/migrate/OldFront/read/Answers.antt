use Rattle.std.proofs.Common.{◌∙◌, rules}
use Rattle.age_io.proofs.Keeping.{same-later}
use Rattle.age_v1.specs.HeaderTexts.{or_legacy}
use Rattle.age_format.specs.OldHeader.{ReadsOldHeader}
use Rattle.age_protocol.specs.Migrating.{ReadsOldFrontOf}
use Rattle.age_protocol.proofs.Fronts.{took_both, nonce_refused}
use Rattle.age_protocol.proofs.Reasons.{refused_as}
use Rattle.age_protocol.proofs.migrate.OldFront.read.Goals as goal

pub returns-in_err-nonce : goal.returns-in_err-nonce
returns-in_err-nonce g c =
    let e = c.in_err-nonce.field-0.0 in
    let then = (rw c.stanzas.ensures.stanzas at c.in_err-nonce.ensures) in
    refused_as (λ r. ReadsOldFrontOf g.R.Read c.args.reader.now c.read_nonce.new.reader r) _ e c.from_residual-in_err-nonce.ensures.1 (record {
      keeps = tt;
      narrows = tt;
      sixteen = tt;
      front = λ told. tt;
      patient = then.patient;
      refused = nonce_refused g.R.Read or_legacy ReadsOldHeader (λ h. h.stanzas) (λ h. h.mac) (λ h old new p q reads. (reads.front, reads.took))
          c.args.reader.now c.read.new.reader c.read_nonce.new.reader c.in_ok-header.header e c.in_ok-header.ensures then;
    })

pub returns : goal.returns
returns g c =
    let first = c.in_ok-header.ensures in
    let then = (rw c.stanzas.ensures.stanzas at c.in_ok-nonce.ensures) in
    record {
      keeps = same-later g.R.Read c.args.reader.now c.read.new.reader c.read_nonce.new.reader first.keeps then.keeps;
      narrows = search rules;
      sixteen = then.sixteen;
      front = λ told.
          let reads = first.header told in
          let (gave, moved) = then.nonce (first.keeps.tells ∙ told) in
          record { text = reads.front; took = took_both _ _ _ _ _ _ _ _ _ _ reads.took then.sixteen gave moved; told = reads.told; rule = then.rule };
      patient = tt;
      refused = tt;
    }
