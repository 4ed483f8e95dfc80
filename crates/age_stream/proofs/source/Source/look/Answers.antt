use Rattle.std.proofs.Common.{◌≡◌, ◌-◌, ◌∙◌, arith, length, ap, length-drop}
use Rattle.age_stream.specs.ReadingLemmas.{and-left, and-right}
use Rattle.age_stream.proofs.Inner.{current-zero, end-zero}
use Rattle.age_stream.proofs.Named.{sought-named}
use Rattle.age_stream.proofs.source.Source.look.Goals as goal

pub invariant_of-self : goal.invariant_of-self
invariant_of-self g c =
    let self = c.args.self.now in
    let seek = c.in-Err.ensures.seeks in
    record {
      size = self.size;
      fits = λ told.
          let t = rw (seek.same_tells, seek.same_steady) at told in
          omega (arith, seek.stays (and-left _ _ t), self.fits t);
    }

pub returns-in-Ok-seek_retrying-clause-found : goal.returns-in-Ok-seek_retrying-clause-found
returns-in-Ok-seek_retrying-clause-found g c = λ told.
    let self = c.args.self.now in
    let read = g.R.Read in
    let t = and-left (read.tells self.inner) (read.steady self.inner) told in
    let s = and-right (read.tells self.inner) (read.steady self.inner) told in
    let first = c.in-Ok.ensures.seeks in
    let second = c.in-Ok-seek_retrying.ensures.seeks in
    let t2 = first.same_tells ∙ t in
    let s2 = first.same_steady ∙ s in
    let stayed = current-zero (read.place self.inner) (length (read.content self.inner).bytes) c.in-Ok.place (first.moves t s).0 in
    let end = end-zero (read.place c.seek_retrying.new.reader) (length (read.content c.seek_retrying.new.reader).bytes) c.in-Ok-seek_retrying.end
    (second.moves t2 s2).0 in
    let len : length (read.content c.seek_retrying.new.reader).bytes ≡ length (read.content self.inner).bytes =
    ap (λ k. length k.bytes) (first.same_content t) in
    let there = second.arrives t2 in
    let within = (g.met.R.Read.stands self.inner t s).within in
    let fits = self.fits told in
    let start : c.saturating_sub-start.result ≡ read.place self.inner - self.taken = omega (arith, c.saturating_sub-start.ensures, stayed) in (
      start,
      omega (arith, start, there, c.saturating_sub-size.ensures, end, len, within, fits),
      omega (arith, start, c.saturating_sub-size.ensures, end, len, length-drop (read.place self.inner - self.taken) (read.content self.inner).bytes),
    )

pub invariant_of-self-in-Err-seek_retrying-2 : goal.invariant_of-self-in-Err-seek_retrying-2
invariant_of-self-in-Err-seek_retrying-2 g c =
    let self = c.args.self.now in
    let read = g.R.Read in
    let first = c.in-Ok.ensures.seeks in
    let second = c.in-Err-seek_retrying.ensures.seeks in
    record {
      size = self.size;
      fits = λ told.
          let was = rw (second.same_tells, first.same_tells, second.same_steady, first.same_steady) at told in
          let t = and-left (read.tells self.inner) (read.steady self.inner) was in
          let stayed = current-zero (read.place self.inner) (length (read.content self.inner).bytes) c.in-Ok.place
          (first.moves t (and-right (read.tells self.inner) (read.steady self.inner) was)).0 in
          omega (arith, second.stays (first.same_tells ∙ t), first.arrives t, stayed, self.fits was);
    }

pub invariant_of-self-in-Ok-seek_retrying : goal.invariant_of-self-in-Ok-seek_retrying
invariant_of-self-in-Ok-seek_retrying g c =
    let self = c.args.self.now in
    let read = g.R.Read in
    let first = c.in-Ok.ensures.seeks in
    let second = c.in-Ok-seek_retrying.ensures.seeks in
    record {
      size = self.size;
      fits = λ told.
          let was = rw (second.same_tells, first.same_tells, second.same_steady, first.same_steady) at told in
          let t = and-left (read.tells self.inner) (read.steady self.inner) was in
          let s = and-right (read.tells self.inner) (read.steady self.inner) was in
          let t2 = first.same_tells ∙ t in
          let s2 = first.same_steady ∙ s in
          let stayed = current-zero (read.place self.inner) (length (read.content self.inner).bytes) c.in-Ok.place (first.moves t s).0 in
          let end = end-zero (read.place c.seek_retrying.new.reader) (length (read.content c.seek_retrying.new.reader).bytes)
          c.in-Ok-seek_retrying.end (second.moves t2 s2).0 in
          omega (arith, c.saturating_sub-start.ensures, stayed, second.arrives t2, c.saturating_sub-size.ensures, end);
    }

pub returns-in-Err-clause-says : goal.returns-in-Err-clause-says
returns-in-Err-clause-says g c =
    sought-named g.R.Read g.R.Seek.seek_refuses c.args.self.now.inner c.seek_retrying.new.reader c.in-Err.e c.lost.result c.lost.ensures
    c.in-Err.ensures.seeks

pub returns-in-Err-seek_retrying-clause-says : goal.returns-in-Err-seek_retrying-clause-says
returns-in-Err-seek_retrying-clause-says g c =
    sought-named g.R.Read g.R.Seek.seek_refuses c.seek_retrying.new.reader c.seek_retrying-in-Ok.new.reader c.in-Err-seek_retrying.e
    c.lost-in-Err-seek_retrying.result
    c.lost-in-Err-seek_retrying.ensures c.in-Err-seek_retrying.ensures.seeks
