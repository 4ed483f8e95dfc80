use Rattle.std.specs.Prelude.{Err, Some}
use Rattle.age.specs.Armor.{text_of}
use Rattle.age.specs.Encrypting.{Prepares}
use Rattle.age_claims.proofs.LeftBehind.{left_of}
use Rattle.age_claims.proofs.left.left_behind.Goals as goal

pub returns-clause-left : goal.returns-clause-left
returns-clause-left g c = λ reader_told told.
    left_of g.S.Suite.seal_of g.W.Write.appended (text_of c.args.format) _ (g.R.Read.rest c.args.reader.now) c.args.writer.now
    c.encrypt_all.new.writer _
    (λ refusal. Prepares g.T.Recipient.wraps c.args.recipients.now (Some c.args.grease) c.args.draw.now (Err refusal) c.encrypt_all.new.draw)
    c.encrypt_all.result (c.encrypt_all.ensures.file reader_told told) c.encrypt_all.ensures.refused (c.encrypt_all.ensures.front reader_told told)
    c.encrypt_all.ensures.why
