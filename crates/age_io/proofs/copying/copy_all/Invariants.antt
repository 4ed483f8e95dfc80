use Rattle.std.proofs.Common.{◌≡◌, ◌+◌, ◌<◌, ◌≤◌, IsTrue, length, ℕ}
use Rattle.age_io.proofs.Copied.{IsCopied}
use Rattle.age_io.specs.Writing.{Narrows, Retried}
use Rattle.age_io.proofs.copying.copy_all.Given as goal

abbrev pub invariant-loop-piece : goal.invariant-loop-piece
invariant-loop-piece g l =
    let reader = g.R.Read in
    let writer = g.W.Write in
    record {
      writer_tells : writer.tells l.writer ≡ writer.tells l.fn.writer;
      given : (n : ℕ) × (IsTrue (reader.tells l.fn.reader) → length (reader.rest l.fn.reader).bytes ≡ n + length (reader.rest l.reader).bytes)
          × Narrows (Retried writer.refuses) l.fn.writer n l.writer;
      writer_faults : writer.faults l.fn.writer ≤ writer.faults l.writer;
      pieces : IsTrue (reader.tells l.fn.reader) → l._piece ≤ reader.place l.reader;
      room : 0 < length l.room.items;
      copied : IsCopied reader writer.tells writer.appended
          l.fn.reader l.reader l.fn.writer l.writer;
    }
