use Rattle.sazh_core.proofs.Prepared.{front_from, io_from, prepares_from, why_from}
use Rattle.sazh_core.proofs.encrypting.encrypt_with.Goals as goal

pub returns-in-Ok : goal.returns-in-Ok
returns-in-Ok g c = record {
  file = λ reader_told writer_told.
      let (file, prepares, appends) = c.in-Ok.ensures.file reader_told writer_told in (
        file,
        prepares_from g.B.RandomBytes.gives g.T.Recipient.wraps c.args.recipients.now c.args.count c.args.source.now c.drawn.new.source
            c.in_ok-draw.draw _ _ _
            c.in_ok-grease.ensures.value c.in_ok-draw.ensures prepares,
        appends,
      );
  random = tt;
  refused = tt;
  why = tt;
  front = λ reader_told writer_told. tt;
  io = tt;
}

pub returns : goal.returns
returns g c = record {
  file = λ reader_told writer_told. tt;
  random = tt;
  refused = c.in-Err.ensures.refused;
  why =
      why_from g.B.RandomBytes.gives g.T.Recipient.wraps c.args.recipients.now c.args.count c.args.source.now c.drawn.new.source c.in_ok-draw.draw _ _
      c.in_ok-grease.ensures.value c.in_ok-draw.ensures c.in-Err.error c.in-Err.ensures.why;
  front = λ reader_told writer_told.
      front_from g.B.RandomBytes.gives g.T.Recipient.wraps _ c.args.recipients.now c.args.count c.args.source.now c.drawn.new.source
      c.in_ok-draw.draw _ _ c.in_ok-grease.ensures.value c.in_ok-draw.ensures c.in-Err.error (c.in-Err.ensures.front reader_told writer_told);
  io =
      io_from g.B.RandomBytes.gives g.T.Recipient.wraps _ c.args.recipients.now c.args.count c.args.source.now c.drawn.new.source
      c.in_ok-draw.draw _ _
      c.in_ok-grease.ensures.value c.in_ok-draw.ensures c.in-Err.error c.in-Err.ensures.io;
}
