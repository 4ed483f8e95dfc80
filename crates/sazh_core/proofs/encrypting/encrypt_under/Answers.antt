use Rattle.std.proofs.Common.{◌∙◌, ◌∷◌, [], ap}
use Rattle.sazh_core.proofs.Prepared.{of_recipients}
use Rattle.sazh_core.proofs.encrypting.encrypt_under.Goals as goal

pub returns : goal.returns
returns g c =
    of_recipients g.B.RandomBytes.gives _ g.S.Suite g.R.Read g.W.Write _ _ _ c.args.source.now _ c.args.format c.args.reader.now _
    c.args.writer.now _ _
    (c.from_ref.ensures.value ∙ ap (λ r. r ∷ []) c.recipient_of-recipient.ensures) c.encrypt_with.ensures
