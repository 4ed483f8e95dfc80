use Rattle.std.proofs.Common.{◌≡◌, ◌<◌, ◌≤◌, length}
use Rattle.age_io.proofs.PartCopied.{IsPartCopied}
use Rattle.age_io.specs.Writing.{Retried}
use Rattle.age_io.proofs.Appending.{HasLeft}
use Rattle.age_io.proofs.copying.copy_some.Given as goal

abbrev pub invariant-pieces : goal.invariant-pieces
invariant-pieces g l =
    let reader = g.R.Read in
    let writer = g.W.Write in
    record {
      writer_tells : writer.tells l.writer ≡ writer.tells l.fn.writer;
      has_left : HasLeft (Retried writer.refuses) l.fn.writer l.writer l.count l.left;
      writer_faults : writer.faults l.fn.writer ≤ writer.faults l.writer;
      room : 0 < length l.piece.items;
      copied : IsPartCopied reader writer.tells writer.appended
          l.count l.left l.fn.reader l.reader l.fn.writer l.writer;
    }

abbrev pub decreases-pieces : goal.decreases-pieces
decreases-pieces g l = l.left
