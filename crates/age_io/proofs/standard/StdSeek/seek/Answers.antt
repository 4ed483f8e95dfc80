use Rattle.std.proofs.Common.{arith, refl}
use Rattle.age_io.specs.StandardFaults.{faults_of}
use Rattle.age_io.proofs.Asking.{counts-passed, stands-failed, seeks-counted, seeks-refused, below-refused, stands-again, stands-there, keeps-both, own-counted}
use Rattle.age_io.proofs.standard.StdSeek.seek.Goals as goal

pub returns-in_err-place-clause-seeks : goal.returns-in_err-place-clause-seeks
returns-in_err-place-clause-seeks g c =
    seeks-counted faults_of c.args.self.now c.ask_seek.new.self c.args.to c.args.self.now.faults _ (omega arith) (c.in_ok-unspent.ensures.unspent)
    (counts-passed _ _ _ _ c.from_residual-in_err-place.ensures.1 c.in_err-place.ensures.counts)

pub returns-in_err-place-clause-moves : goal.returns-in_err-place-clause-moves
returns-in_err-place-clause-moves g c = λ below place bytes at holds.
    stands-failed _ place _ _ c.in_err-place.field-0.0 c.from_residual-in_err-place.ensures.1 c.in_err-place.ensures.counts.0

pub returns-in_err-len-clause-seeks : goal.returns-in_err-len-clause-seeks
returns-in_err-len-clause-seeks g c =
    seeks-counted faults_of c.args.self.now c.ask_seek-2.new.self c.args.to c.ask_seek.new.self.faults _
    (omega (arith, c.in_ok-place.ensures.counts))
    (omega (arith, c.in_ok-unspent.ensures.unspent, c.in_ok-place.ensures.counts))
    (counts-passed _ _ _ _ c.from_residual-in_err-len.ensures.1 c.in_err-len.ensures.counts)

pub returns-in_err-len-clause-moves : goal.returns-in_err-len-clause-moves
returns-in_err-len-clause-moves g c = λ below place bytes at holds.
    stands-failed _ place _ _ c.in_err-len.field-0.0 c.from_residual-in_err-len.ensures.1 c.in_err-len.ensures.counts.0

pub returns-in_err-ask_seek-in-Err-clause-seeks : goal.returns-in_err-ask_seek-in-Err-clause-seeks
returns-in_err-ask_seek-in-Err-clause-seeks g c =
    seeks-counted faults_of c.args.self.now c.ask_seek-in-Err.new.self c.args.to c.ask_seek-2.new.self.faults _
    (omega (arith, c.in_ok-place.ensures.counts, c.in_ok-len.ensures.counts))
    (omega (arith, c.in_ok-unspent.ensures.unspent, c.in_ok-place.ensures.counts, c.in_ok-len.ensures.counts))
    (counts-passed _ _ _ _ c.from_residual-in_err-ask_seek-in-Err.ensures.1 c.in_err-ask_seek-in-Err.ensures.counts)

pub returns-in_err-ask_seek-in-Err-clause-moves : goal.returns-in_err-ask_seek-in-Err-clause-moves
returns-in_err-ask_seek-in-Err-clause-moves g c = λ below place bytes at holds.
    stands-failed _ place _ _ c.in_err-ask_seek-in-Err.field-0.0 c.from_residual-in_err-ask_seek-in-Err.ensures.1
    c.in_err-ask_seek-in-Err.ensures.counts.0

pub returns-in-Ok-clause-seeks : goal.returns-in-Ok-clause-seeks
returns-in-Ok-clause-seeks g c =
    seeks-counted faults_of c.args.self.now c.ask_seek-in-Ok.new.self c.args.to c.ask_seek-2.new.self.faults _
    (omega (arith, c.in_ok-place.ensures.counts, c.in_ok-len.ensures.counts))
    (omega (arith, c.in_ok-unspent.ensures.unspent, c.in_ok-place.ensures.counts, c.in_ok-len.ensures.counts)) c.ask_seek-in-Ok.ensures.counts

pub returns-in_ok-ask_seek-in-Err-clause-seeks : goal.returns-in_ok-ask_seek-in-Err-clause-seeks
returns-in_ok-ask_seek-in-Err-clause-seeks g c =
    seeks-refused faults_of c.args.self.now c.ask_seek-in-Err.new.self c.args.to c.in-Err.error
    (omega (arith, c.in_ok-place.ensures.counts, c.in_ok-len.ensures.counts, c.in_ok-ask_seek-in-Err.ensures.counts))
    c.in-Err.ensures.refused (below-refused c.args.to c.in_ok-place.place c.in_ok-len.len c.in-Err.error c.in-Err.ensures.sought)

pub returns-in-Ok-clause-moves : goal.returns-in-Ok-clause-moves
returns-in-Ok-clause-moves g c = λ below place bytes at holds.
    stands-there c.args.to place c.in_ok-place.place c.in_ok-len.len bytes
    (g.T.Seek.stream_position c.args.self.now.inner) (g.T.Seek.stream_position c.ask_seek.new.self.inner)
    (g.T.Seek.stream_position c.ask_seek-2.new.self.inner) (g.T.Seek.stream_position c.ask_seek-in-Ok.new.self.inner)
    (g.T.Seek.stream_bytes c.args.self.now.inner) (g.T.Seek.stream_bytes c.ask_seek.new.self.inner)
    (g.T.Seek.stream_bytes c.ask_seek-2.new.self.inner)
    at holds c.in_ok-place.ensures.moves c.in_ok-place.ensures.bytes c.in_ok-len.ensures.moves
    _ _ c.in-Ok.target c.ask_seek-in-Ok.result c.in-Ok.ensures.sought c.ask_seek-in-Ok.ensures.moves c.ask_seek-in-Ok.ensures.counts

pub returns-in_ok-ask_seek-in-Err-clause-moves : goal.returns-in_ok-ask_seek-in-Err-clause-moves
returns-in_ok-ask_seek-in-Err-clause-moves g c = λ below place bytes at holds other.
    stands-again c.args.to place c.in_ok-place.place c.in_ok-len.len bytes
    (g.T.Seek.stream_position c.args.self.now.inner) (g.T.Seek.stream_position c.ask_seek.new.self.inner)
    (g.T.Seek.stream_position c.ask_seek-2.new.self.inner) (g.T.Seek.stream_position c.ask_seek-in-Err.new.self.inner)
    (g.T.Seek.stream_bytes c.args.self.now.inner) (g.T.Seek.stream_bytes c.ask_seek.new.self.inner)
    (g.T.Seek.stream_bytes c.ask_seek-2.new.self.inner)
    at holds c.in_ok-place.ensures.moves c.in_ok-place.ensures.bytes c.in_ok-len.ensures.moves
    _ c.in-Err.error c.in-Err.ensures.sought c.in_ok-ask_seek-in-Err.ensures.moves

pub returns-in_err-place-clause-bytes : goal.returns-in_err-place-clause-bytes
returns-in_err-place-clause-bytes g c = c.in_err-place.ensures.bytes

pub returns-in_err-len-clause-bytes : goal.returns-in_err-len-clause-bytes
returns-in_err-len-clause-bytes g c = keeps-both (g.T.Seek.stream_bytes c.args.self.now.inner) (g.T.Seek.stream_bytes c.ask_seek.new.self.inner)
    (g.T.Seek.stream_bytes c.ask_seek-2.new.self.inner) c.in_ok-place.ensures.bytes c.in_err-len.ensures.bytes

pub returns-in_err-ask_seek-in-Err-clause-bytes : goal.returns-in_err-ask_seek-in-Err-clause-bytes
returns-in_err-ask_seek-in-Err-clause-bytes g c =
    keeps-both (g.T.Seek.stream_bytes c.args.self.now.inner) (g.T.Seek.stream_bytes c.ask_seek.new.self.inner)
    (g.T.Seek.stream_bytes c.ask_seek-in-Err.new.self.inner) c.in_ok-place.ensures.bytes
    (keeps-both (g.T.Seek.stream_bytes c.ask_seek.new.self.inner) (g.T.Seek.stream_bytes c.ask_seek-2.new.self.inner)
    (g.T.Seek.stream_bytes c.ask_seek-in-Err.new.self.inner) c.in_ok-len.ensures.bytes c.in_err-ask_seek-in-Err.ensures.bytes)

pub returns-in-Ok-clause-bytes : goal.returns-in-Ok-clause-bytes
returns-in-Ok-clause-bytes g c =
    keeps-both (g.T.Seek.stream_bytes c.args.self.now.inner) (g.T.Seek.stream_bytes c.ask_seek.new.self.inner)
    (g.T.Seek.stream_bytes c.ask_seek-in-Ok.new.self.inner) c.in_ok-place.ensures.bytes
    (keeps-both (g.T.Seek.stream_bytes c.ask_seek.new.self.inner) (g.T.Seek.stream_bytes c.ask_seek-2.new.self.inner)
    (g.T.Seek.stream_bytes c.ask_seek-in-Ok.new.self.inner) c.in_ok-len.ensures.bytes c.ask_seek-in-Ok.ensures.bytes)

pub returns-in_ok-ask_seek-in-Err-clause-bytes : goal.returns-in_ok-ask_seek-in-Err-clause-bytes
returns-in_ok-ask_seek-in-Err-clause-bytes g c =
    keeps-both (g.T.Seek.stream_bytes c.args.self.now.inner) (g.T.Seek.stream_bytes c.ask_seek.new.self.inner)
    (g.T.Seek.stream_bytes c.ask_seek-in-Err.new.self.inner) c.in_ok-place.ensures.bytes
    (keeps-both (g.T.Seek.stream_bytes c.ask_seek.new.self.inner) (g.T.Seek.stream_bytes c.ask_seek-2.new.self.inner)
    (g.T.Seek.stream_bytes c.ask_seek-in-Err.new.self.inner) c.in_ok-len.ensures.bytes c.in_ok-ask_seek-in-Err.ensures.bytes)

pub returns-in_err-place-clause-asked : goal.returns-in_err-place-clause-asked
returns-in_err-place-clause-asked g c = λ below.
    own-counted _ c.args.self.now.faults c.ask_seek.new.self.faults _ refl
    (counts-passed _ _ _ _ c.from_residual-in_err-place.ensures.1 c.in_err-place.ensures.counts)

pub returns-in_err-len-clause-asked : goal.returns-in_err-len-clause-asked
returns-in_err-len-clause-asked g c = λ below.
    own-counted _ c.ask_seek.new.self.faults c.ask_seek-2.new.self.faults _ c.in_ok-place.ensures.counts
    (counts-passed _ _ _ _ c.from_residual-in_err-len.ensures.1 c.in_err-len.ensures.counts)

pub returns-in_err-ask_seek-in-Err-clause-asked : goal.returns-in_err-ask_seek-in-Err-clause-asked
returns-in_err-ask_seek-in-Err-clause-asked g c = λ below.
    own-counted _ c.ask_seek-2.new.self.faults c.ask_seek-in-Err.new.self.faults _
    (omega (arith, c.in_ok-place.ensures.counts, c.in_ok-len.ensures.counts))
    (counts-passed _ _ _ _ c.from_residual-in_err-ask_seek-in-Err.ensures.1 c.in_err-ask_seek-in-Err.ensures.counts)

pub returns-in-Ok-clause-asked : goal.returns-in-Ok-clause-asked
returns-in-Ok-clause-asked g c = λ below.
    own-counted _ c.ask_seek-2.new.self.faults c.ask_seek-in-Ok.new.self.faults _
    (omega (arith, c.in_ok-place.ensures.counts, c.in_ok-len.ensures.counts)) c.ask_seek-in-Ok.ensures.counts

pub returns-in_ok-ask_seek-in-Err-clause-asked : goal.returns-in_ok-ask_seek-in-Err-clause-asked
returns-in_ok-ask_seek-in-Err-clause-asked g c = λ below. (
  λ is. absurd (c.in-Err.ensures.refused is),
  λ other.
      omega (arith, c.in_ok-place.ensures.counts, c.in_ok-len.ensures.counts, c.in_ok-ask_seek-in-Err.ensures.counts),
)

pub returns-in_err-place-clause-spent : goal.returns-in_err-place-clause-spent
returns-in_err-place-clause-spent g c = λ spent. absurd (omega (arith, spent, c.in_ok-unspent.ensures.unspent))

pub returns-in_err-len-clause-spent : goal.returns-in_err-len-clause-spent
returns-in_err-len-clause-spent g c = λ spent. absurd (omega (arith, spent, c.in_ok-unspent.ensures.unspent))

pub returns-in_err-ask_seek-in-Err-clause-spent : goal.returns-in_err-ask_seek-in-Err-clause-spent
returns-in_err-ask_seek-in-Err-clause-spent g c = λ spent. absurd (omega (arith, spent, c.in_ok-unspent.ensures.unspent))

pub returns-in-Ok-clause-spent : goal.returns-in-Ok-clause-spent
returns-in-Ok-clause-spent g c = λ spent. absurd (omega (arith, spent, c.in_ok-unspent.ensures.unspent))

pub returns-in_ok-ask_seek-in-Err-clause-spent : goal.returns-in_ok-ask_seek-in-Err-clause-spent
returns-in_ok-ask_seek-in-Err-clause-spent g c = λ spent. absurd (omega (arith, spent, c.in_ok-unspent.ensures.unspent))
