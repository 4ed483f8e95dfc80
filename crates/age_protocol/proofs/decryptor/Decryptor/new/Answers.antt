use Rattle.std.proofs.Common.{◌∙◌, rules}
use Rattle.age_io.proofs.Keeping.{same-later}
use Rattle.age_v1.specs.Header.{header_text}
use Rattle.age_v1.specs.HeaderTexts.{canonical}
use Rattle.age_format.specs.ReadingHeader.{ReadsHeader}
use Rattle.age_protocol.proofs.Fronts.{took_both, nonce_refused}
use Rattle.age_protocol.proofs.Reasons.{refused_as}
use Rattle.age_protocol.specs.Decryptor.{OpensFront}
use Rattle.age_protocol.proofs.decryptor.Decryptor.new.Goals as goal

pub returns-in_err-nonce : goal.returns-in_err-nonce
returns-in_err-nonce g c =
    let e = c.in_err-nonce.field-0.0 in
    let then = (rw c.stanzas.ensures.stanzas at c.in_err-nonce.ensures) in
    refused_as (λ r. OpensFront g.R.Read c.args.input r) _ e c.from_residual-in_err-nonce.ensures.1 (record {
      keeps = tt;
      narrows = tt;
      unspent = tt;
      sixteen = tt;
      rule = tt;
      front = λ told. tt;
      patient = then.patient;
      refused = (
        c.read_nonce.new.reader,
        nonce_refused g.R.Read canonical ReadsHeader (λ h. h.stanzas) (λ h. h.mac) (λ h old new p q took. (header_text h.stanzas h.mac, took))
            c.args.input c.read.new.reader c.read_nonce.new.reader c.in_ok-header.header e c.in_ok-header.ensures then,
      );
    })

pub returns : goal.returns
returns g c =
    let first = c.in_ok-header.ensures in
    let then = (rw c.stanzas.ensures.stanzas at c.in_ok-nonce.ensures) in
    record {
      keeps = same-later g.R.Read c.args.input c.read.new.reader c.read_nonce.new.reader first.keeps then.keeps;
      narrows = search rules;
      unspent = then.unspent;
      sixteen = then.sixteen;
      rule = then.rule;
      front = λ told.
          let (gave, moved) = then.nonce (first.keeps.tells ∙ told) in
          record { took = took_both _ _ _ _ _ _ _ _ _ _ (first.header told) then.sixteen gave moved; rule = then.rule };
      patient = tt;
      refused = tt;
    }
