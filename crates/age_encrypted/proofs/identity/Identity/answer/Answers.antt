use Rattle.age_error.specs.DecryptErrors.{decrypt_refusal}
use Rattle.age_stream.specs.contracts.reader.StreamReaderRead.TheImpl.{ghosts}
use Rattle.age_encrypted.specs.Identity.{filename_of, state_of}
use Rattle.age_encrypted.proofs.Answered.{decrypted_answers, failed_answers}
use Rattle.age_encrypted.proofs.identity.Identity.answer.Goals as goal

pub returns-in-Decrypted-clause-uses : goal.returns-in-Decrypted-clause-uses
returns-in-Decrypted-clause-uses g c =
    decrypted_answers g.S.Suite (ghosts g.row.S g.row.R g.S.Suite g.S.Suite-dict g.R.Read g.R.Read-dict) g.C.Callbacks.gives_passphrase
    (filename_of c.args.self.now) g.C.Callbacks.displays (state_of c.args.self.now) c.args.stanzas.now c.open-first.new.self.state
    c.open-first.new.self.callbacks c.open-first.ensures.opens c.in-Decrypted.file c.in-Decrypted.is c.open-first.result c.open-first.ensures.first
    _ c.ask.ensures.answers c.ask.new.callbacks c.ask.ensures.shows

pub returns-in-Failed-clause-uses : goal.returns-in-Failed-clause-uses
returns-in-Failed-clause-uses g c =
    failed_answers g.S.Suite (ghosts g.row.S g.row.R g.S.Suite g.S.Suite-dict g.R.Read g.R.Read-dict) g.C.Callbacks.gives_passphrase
    (filename_of c.args.self.now) g.C.Callbacks.displays (state_of c.args.self.now) c.args.stanzas.now c.open-first.new.self.state
    c.open-first.new.self.callbacks c.open-first.ensures.opens c.in-Failed.e c.in-Failed.is (decrypt_refusal c.repeated.result) c.repeated.ensures
