use Rattle.sazh_core.proofs.Flushed.{appended_flushed, on_ok}
use Rattle.sazh_core.proofs.decrypting.decrypt.Goals as goal

pub returns-in-Ok-clause-file : goal.returns-in-Ok-clause-file
returns-in-Ok-clause-file g c = λ reader_told writer_told.
    let done = c.in-Ok.ensures.file reader_told (writer_told c.args.writer.now) in
    on_ok c.flushed.result (record {
      plain = done.plain;
      ended = done.ended;
      file = done.file;
      out = appended_flushed g.W.Write g.met.W.Write.joins writer_told c.args.writer.now _ c.flushed.new.writer done.plain c.flushed.result
          done.out c.flushed.ensures;
    })
