use Rattle.age_v1.specs.Payload.{payload_key}
use Rattle.age_protocol.proofs.Writing.{file-made, front-made}
use Rattle.age_protocol.proofs.whole.write_binary.Goals as goal

pub returns-in-Err-clause-made : goal.returns-in-Err-clause-made
returns-in-Err-clause-made g c =
    front-made g.S.Suite.seal_of g.R.Read g.W.Write g.met.W.Write.joins c.args.encryptor c.args.reader.now c.args.reader.now c.args.output
    c.in-Err.output c.in-Err.error
    c.in-Err.ensures.refused

pub returns-in-Ok-clause-made : goal.returns-in-Ok-clause-made
returns-in-Ok-clause-made g c =
    let starts = c.in-Ok.ensures.starts in
    let file = c.args.encryptor in
    rw c.into_inner.ensures (file-made g.S.Suite.seal_of g.R.Read g.W.Write g.met.W.Write.joins file c.args.reader.now
    c.write_payload-written.new.reader c.args.output c.in-Ok.stream starts
    (c.write_payload-written.new.stream.inner, c.write_payload-written.result)
    (c.write_payload-written.ensures (payload_key file.file_key file.nonce) starts.inner starts.made))
