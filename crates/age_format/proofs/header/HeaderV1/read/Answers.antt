use Rattle.std.proofs.Common.{rules, subst}
use Rattle.age_v1.specs.HeaderTexts.{canonical, IsHeaderText}
use Rattle.age_v1.specs.HeaderVerdict.{Header}
use Rattle.age_format.specs.ReadingHeader.{TookVerdict}
use Rattle.age_v1.proofs.Headers.{only_text}
use Rattle.age_format.proofs.HeaderReading.{header_of}
use Rattle.age_format.proofs.header.HeaderV1.read.Goals as goal

pub invariant_of-result : goal.invariant_of-result
invariant_of-result g c =
    let h = c.in-Ok.read in
    let says : IsHeaderText canonical h.text.items h.stanzas.items h.mac = search rules in
    header_of canonical h.text.items h.stanzas.items h.mac says

pub returns-in-Ok : goal.returns-in-Ok
returns-in-Ok g c =
    let read = g.R.Read in
    let h = c.in-Ok.read in
    let did = c.in-Ok.ensures in
    let now = c.read_header_text.new.reader in
    record {
      keeps = did.keeps;
      device = tt;
      patient = tt;
      io = tt;
      unspent = did.unspent;
      narrows = did.narrows;
      header = λ told. subst (λ t. TookVerdict canonical (read.rest c.args.reader.now) (read.rest now) (read.place c.args.reader.now)
          (read.place now) t
          (Header h.stanzas.items h.mac)) (only_text h.text.items h.stanzas.items h.mac did.says) (did.header told);
      refused = λ told. tt;
    }
