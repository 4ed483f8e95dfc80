use Rattle.std.proofs.Common.{refl, subst}
use Rattle.age_protocol.specs.OpeningFile.{AnswersReader}
use Rattle.age_protocol.proofs.decryptor.Decryptor.decrypt_one.Goals as goal

pub returns-in-Ok : goal.returns-in-Ok
returns-in-Ok g c =
    let (answer, asked, is) = c.in-Ok.ensures in (
      answer,
      rw c.stanzas.ensures.stanzas at asked,
      subst (λ answer. AnswersReader answer c.args.self.header c.args.self.nonce c.args.self.input c.decrypt_with.result) is c.decrypt_with.ensures,
    )

pub returns-in-Err : goal.returns-in-Err
returns-in-Err g c =
    let (answer, asked, is) = c.in-Err.ensures in
    (answer, rw c.stanzas.ensures.stanzas at asked, rw (← is) refl)
