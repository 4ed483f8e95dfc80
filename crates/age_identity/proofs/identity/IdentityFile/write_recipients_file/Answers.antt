use Rattle.std.proofs.Common.{◌∙◌, ap, map}
use Rattle.age_identity.specs.Entries.{entry_of}
use Rattle.age_identity.specs.Converting.{recipients_text}
use Rattle.age_identity.proofs.Writing.{refused_writing}
use Rattle.age_identity.proofs.identity.IdentityFile.write_recipients_file.Goals as goal

pub returns-in-Err : goal.returns-in-Err
returns-in-Err g c =
    refused_writing g.W.Write.tells g.W.Write.faults g.W.Write.refuses g.W.Write.appended c.as_bytes.result.now _ _ _ c.args.output.now
    c.write_all.new.writer c.in-Err.e
    (c.as_bytes.ensures.value ∙ c.in_ok-text.ensures
    ∙ ap (λ es. recipients_text g.S.Suite.public_of (map (λ e. entry_of e) es)) c.as_slice-entries.ensures.value)
    c.in-Err.ensures.writes
