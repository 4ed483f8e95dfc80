use Rattle.sazh_core.proofs.Prepared.{of_count}
use Rattle.sazh_core.proofs.encrypting.encrypt_to_keys.Goals as goal

pub returns : goal.returns
returns g c =
    of_count g.B.RandomBytes.gives _ g.S.Suite g.R.Read g.W.Write c.args.recipients.now _ _ c.args.source.now _ c.args.format c.args.reader.now _
    c.args.writer.now _ _ c.in-Some.ensures
    c.encrypt_with.ensures
