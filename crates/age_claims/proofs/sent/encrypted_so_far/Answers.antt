use Rattle.std.proofs.Common.{◌≡◌, ◌∙◌, ap, true}
use Rattle.std.proofs.lemmas.Result.{on_ok_weaker}
use Rattle.age.specs.Payload.{payload_key}
use Rattle.age.specs.StreamWriting.{inner_of}
use Rattle.age_claims.proofs.BegunFiles.{begun-file, front-begun, sent-begun, whole-file}
use Rattle.age_claims.proofs.sent.encrypted_so_far.Goals as goal

pub returns-in-Err-clause-begun : goal.returns-in-Err-clause-begun
returns-in-Err-clause-begun g c = λ reader_told told.
    let (n, fits, out) = c.in-Err.ensures.refused.takes_front told in
    front-begun g.S.Suite.seal_of g.W.Write.appended g.met.W.Write.joins c.args.encryptor (g.R.Read.rest c.args.reader.now).bytes c.args.output
    c.in-Err.output n out

pub returns-in-Err-copy_all-clause-begun : goal.returns-in-Err-copy_all-clause-begun
returns-in-Err-copy_all-clause-begun g c = λ reader_told told.
    let seal_of = g.S.Suite.seal_of in
    let below = g.W.Write.appended in
    let file = c.args.encryptor in
    let started = c.in-Ok.ensures.starts in
    let writer = c.in-Ok.writer in
    let after = c.copy_all.new.writer in
    let rest = (g.R.Read.rest c.args.reader.now).bytes in
    let told_below : g.W.Write.tells (inner_of writer) ≡ true = ap g.W.Write.tells started.made.same_inner ∙ (started.same_tells ∙ told) in
    let sent = sent-begun seal_of below g.met.W.Write.joins writer after (payload_key file.file_key file.nonce) rest started.inner
    c.sent_law.ensures.calls started.made (c.in-Err-copy_all.ensures.front reader_told told_below) in
    rw c.into_inner.ensures
    (begun-file seal_of below g.met.W.Write.joins file rest c.args.output started.inner (inner_of after) (started.front told) sent)

pub returns-in-Ok-copy_all-clause-begun : goal.returns-in-Ok-copy_all-clause-begun
returns-in-Ok-copy_all-clause-begun g c = λ reader_told told.
    let seal_of = g.S.Suite.seal_of in
    let below = g.W.Write.appended in
    let file = c.args.encryptor in
    let started = c.in-Ok.ensures.starts in
    let writer = c.in-Ok.writer in
    let closed = c.close-closed.new.self in
    let rest = (g.R.Read.rest c.args.reader.now).bytes in
    let told_below : g.W.Write.tells (inner_of writer) ≡ true = ap g.W.Write.tells started.made.same_inner ∙ (started.same_tells ∙ told) in
    let copied = c.in-Ok-copy_all.ensures.all reader_told told_below in
    let sent = c.sent_law.ensures.close writer c.copy_all.new.writer (payload_key file.file_key file.nonce) rest started.inner (inner_of closed)
    started.made copied.1 (λ failed. ap (λ w. inner_of w) (c.close-closed.ensures.closes.failed failed).1)
    (c.close-closed.ensures.front (c.in-Ok-copy_all.ensures.tells ∙ told_below)) in
    rw c.into_inner-in-Ok-copy_all.ensures
    (begun-file seal_of below g.met.W.Write.joins file rest c.args.output started.inner (inner_of closed) (started.front told) sent)

pub returns-in-Ok-copy_all-clause-whole : goal.returns-in-Ok-copy_all-clause-whole
returns-in-Ok-copy_all-clause-whole g c = λ reader_told told.
    let file = c.args.encryptor in
    let started = c.in-Ok.ensures.starts in
    let writer = c.in-Ok.writer in
    let rest = (g.R.Read.rest c.args.reader.now).bytes in
    let told_below : g.W.Write.tells (inner_of writer) ≡ true = ap g.W.Write.tells started.made.same_inner ∙ (started.same_tells ∙ told) in
    let copied = c.in-Ok-copy_all.ensures.all reader_told told_below in
    rw c.into_inner-in-Ok-copy_all.ensures (on_ok_weaker c.close-closed.result
    (λ out. (
      copied.0,
      whole-file g.S.Suite.seal_of g.W.Write.appended g.met.W.Write.joins file rest c.args.output started.inner (inner_of c.close-closed.new.self)
          (started.front told) out,
    ))
    (c.close-closed.ensures.ok (c.in-Ok-copy_all.ensures.tells ∙ told_below) writer (payload_key file.file_key file.nonce) rest started.inner
    started.made copied.1))
