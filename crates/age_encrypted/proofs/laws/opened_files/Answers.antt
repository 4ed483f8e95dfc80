use Rattle.std.specs.Prelude.{Ok, Err, refl}
use Rattle.age_stream.specs.contracts.reader.StreamReaderRead.TheImpl.{ghosts}
use Rattle.age_encrypted.proofs.Opened.{opened_entries}
use Rattle.age_encrypted.proofs.Refused.{opens_no_text}
use Rattle.age_encrypted.proofs.laws.opened_files.Goals as goal

pub returns-clause-entries : goal.returns-clause-entries
returns-clause-entries g c =
    λ filename file entries after opens.
    opened_entries g.S.Suite g.R.Read (ghosts g.row.S g.row.R g.S.Suite g.S.Suite-dict g.R.Read g.R.Read-dict) (λ r. refl) (λ r. refl)
    g.C.Callbacks.gives_passphrase filename file (Ok entries) after opens

pub returns-clause-refusals : goal.returns-clause-refusals
returns-clause-refusals g c =
    λ filename file refusal after opens.
    opens_no_text g.S.Suite (ghosts g.row.S g.row.R g.S.Suite g.S.Suite-dict g.R.Read g.R.Read-dict)
    g.C.Callbacks.gives_passphrase filename file (Err refusal) after opens
