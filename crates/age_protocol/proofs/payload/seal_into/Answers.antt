use Rattle.std.proofs.Common.{inl, subst}
use Rattle.age_error.specs.Refusals.{IsDevice}
use Rattle.age_v1.specs.Payload.{payload}
use Rattle.age_protocol.proofs.Writing.{made-flushed, made-refused}
use Rattle.age_protocol.proofs.payload.seal_into.Goals as goal

pub returns-in-Err : goal.returns-in-Err
returns-in-Err g c =
    made-refused g.R.Read g.W.Write (payload g.S.Suite.seal_of c.args.key) c.args.reader.now c.args.reader.now c.args.output
    g.met.W.Write.appends_nothing c.in-Err.error
    (inl c.in-Err.ensures) (λ is. subst IsDevice c.in-Err.ensures is)

pub returns-in-Ok-written : goal.returns-in-Ok-written
returns-in-Ok-written g c =
    let written = c.write_payload-written.ensures c.args.key c.args.output c.with_room-stream.ensures.made in
    made-flushed g.R.Read g.W.Write (payload g.S.Suite.seal_of c.args.key) c.args.reader.now c.write_payload-written.new.reader c.args.output
    g.met.W.Write.joins c.write_payload-written.new.stream.inner c.flush_retrying-flushed.new.writer
    (rw c.in-Ok-written.is at written) c.flush_retrying-flushed.result
    (rw c.into_inner-output.ensures at c.flush_retrying-flushed.ensures.flushes)

pub returns-in-Err-written : goal.returns-in-Err-written
returns-in-Err-written g c =
    let written = c.write_payload-written.ensures c.args.key c.args.output c.with_room-stream.ensures.made in
    rw c.into_inner-output.ensures (rw c.in-Err-written.is at written)
