use Rattle.std.proofs.Common.{rules}
use Rattle.age_protocol.proofs.payload.seal_all.Goals as goal

pub returns-in-Err-clause-refused : goal.returns-in-Err-clause-refused
returns-in-Err-clause-refused g c =
    let sealed = c.seal_into-sealed.ensures in
    let refused = rw c.in-Err.is at sealed.refused in
    record {
      named = refused.named;
      why = refused.why;
      device = λ reader_told writer_told is.
          let out = (sealed.front reader_told writer_told).out in
          let device = refused.device reader_told writer_told is in
          search rules;
    }
