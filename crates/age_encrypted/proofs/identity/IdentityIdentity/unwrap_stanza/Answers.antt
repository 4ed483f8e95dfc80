use Rattle.std.proofs.Common.{subst}
use Rattle.age_format.specs.Unwrapping.{unwrap_answer}
use Rattle.age_stream.specs.contracts.reader.StreamReaderRead.TheImpl.{ghosts}
use Rattle.age_encrypted.specs.Identity.{filename_of, state_of}
use Rattle.age_encrypted.specs.ProtectedIdentity.{Uses}
use Rattle.age_encrypted.proofs.identity.IdentityIdentity.unwrap_stanza.Goals as goal

pub returns : goal.returns
returns g c = (
  c.answer.ensures.name,
  subst (λ stanzas. Uses g.S.Suite (ghosts g.row.S g.row.R g.S.Suite g.S.Suite-dict g.R.Read g.R.Read-dict) g.C.Callbacks.gives_passphrase
      (filename_of c.args.self.now) g.C.Callbacks.displays (state_of c.args.self.now) stanzas (unwrap_answer c.answer.result)
      (state_of c.answer.new.self))
      c.from_ref.ensures.value c.answer.ensures.uses,
)
