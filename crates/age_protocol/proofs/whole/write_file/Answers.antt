use Rattle.age_v1.specs.File.{file_text}
use Rattle.age_protocol.proofs.Writing.{text-cut, text-made, text-refused}
use Rattle.age_protocol.proofs.whole.write_file.Goals as goal

pub returns-in-Err-clause-made : goal.returns-in-Err-clause-made
returns-in-Err-clause-made g c =
    let file = c.args.encryptor in
    text-refused g.R.Read g.W.Write (λ plain. file_text g.S.Suite.seal_of file.file_key file.stanzas file.nonce plain) c.args.reader.now
    c.args.reader.now c.args.format c.args.writer
    c.in-Err.writer c.in-Err.error c.in-Err.ensures.front c.in-Err.ensures.wraps.why c.in-Err.ensures.device

pub returns-in-Err-1₀-clause-made : goal.returns-in-Err-1₀-clause-made
returns-in-Err-1₀-clause-made g c =
    let file = c.args.encryptor in
    let written = c.write_binary-written.ensures.made in
    rw c.into_inner.ensures (text-cut g.R.Read g.W.Write
    (λ plain. file_text g.S.Suite.seal_of file.file_key file.stanzas file.nonce plain) c.args.reader.now c.write_binary-written.new.reader
    c.args.format c.args.writer c.in-Ok.armored c.in-Ok.ensures.wraps c.sent_law.ensures.sent c.write_binary-written.result.0 c.in-Err-1₀.error
    written.front
    (rw c.in-Err-1₀.is at written.refused).named (rw c.in-Err-1₀.is at written.refused).why (rw c.in-Err-1₀.is at written.refused).device)

pub returns-in-Ok-1₀-clause-made : goal.returns-in-Ok-1₀-clause-made
returns-in-Ok-1₀-clause-made g c =
    let file = c.args.encryptor in
    let written = c.write_binary-written.ensures.made in
    text-made g.R.Read g.W.Write (λ plain. file_text g.S.Suite.seal_of file.file_key file.stanzas file.nonce plain) c.args.reader.now
    c.write_binary-written.new.reader
    c.args.format c.args.writer c.in-Ok.armored c.in-Ok.ensures.wraps c.sent_law.ensures.sent c.write_binary-written.result.0
    (rw c.in-Ok-1₀.is at written.same_tells) (rw c.in-Ok-1₀.is at written.no_fewer_faults) (rw c.in-Ok-1₀.is at written.all)
    (rw c.in-Ok-1₀.is at written.narrows)
    c.end_text.result c.end_text.ensures
