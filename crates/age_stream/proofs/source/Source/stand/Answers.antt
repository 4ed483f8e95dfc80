use Rattle.age_error.specs.declared.io.Error.TheVariants.{OutOfMemory}
use Rattle.age_io.specs.Cursor.{IsOutside}
use Rattle.std.proofs.Common.{ap, ◌≢◌, ◌≡◌, ◌-◌, ◌+◌, ◌∙◌, arith, length, refl, subst, length-drop}
use Rattle.age_io.specs.Stretch.{from_place}
use Rattle.age_stream.specs.ReadingLemmas.{and-left, and-right}
use Rattle.age_stream.proofs.Named.{sought-named}
use Rattle.age_stream.proofs.Inner.{start-at, payload-place, refused-start}
use Rattle.age_stream.proofs.source.Source.stand.Goals as goal

pub invariant_of-self : goal.invariant_of-self
invariant_of-self g c =
    let self = c.args.self.now in
    let seek = c.in-Err.ensures.seeks in
    record {
      size = self.size;
      fits = λ told.
          let t = rw (seek.same_tells, seek.same_steady) at told in
          omega (arith, seek.stays (and-left _ _ t), self.fits t);
    }

pub invariant_of-self-in-Ok : goal.invariant_of-self-in-Ok
invariant_of-self-in-Ok g c =
    let self = c.args.self.now in
    let read = g.R.Read in
    let seek = c.in-Ok.ensures.seeks in
    record {
      size = self.size;
      fits = λ told.
          let was = rw (seek.same_tells, seek.same_steady) at told in
          let t = and-left (read.tells self.inner) (read.steady self.inner) was in
          let s = and-right (read.tells self.inner) (read.steady self.inner) was in
          let target = start-at _ (read.place self.inner) (length (read.content self.inner).bytes) c.in-Ok.field-0 (seek.moves t s).0 in
          omega (
            arith,
            seek.arrives t,
            target,
            c.saturating_add.ensures,
            c.requires.start was,
            c.requires.within was,
            length-drop (read.place self.inner - self.taken) (read.content self.inner).bytes,
            g.met.R.Read.short self.inner t,
            g.met.R.Read.place_fits self.inner t,
          );
    }

pub returns-in-Err-clause-refused : goal.returns-in-Err-clause-refused
returns-in-Err-clause-refused g c = record {
  refusal = c.lost.ensures.refusal;
  cause = λ told well memory quiet.
      let self = c.args.self.now in
      let read = g.R.Read in
      let t = and-left (read.tells self.inner) (read.steady self.inner) told in
      let seek = c.in-Err.ensures.seeks in
      let want : c.in-Err.e ≢ OutOfMemory = λ is. memory (c.lost.ensures.same (λ refusal. subst IsOutside is refusal) ∙ is) in
      let refusal = seek.cause t well want quiet in
      refused-start _ (read.place self.inner) (length (read.content self.inner).bytes) c.in-Err.e
      (omega (
        arith,
        c.saturating_add.ensures,
        c.requires.start told,
        c.requires.within told,
        length-drop (read.place self.inner - self.taken) (read.content self.inner).bytes,
        (g.met.R.Read.stands self.inner t (and-right (read.tells self.inner) (read.steady self.inner) told)).within,
      ))
      (seek.refused t well refusal);
}

pub returns-in-Ok-clause-stands : goal.returns-in-Ok-clause-stands
returns-in-Ok-clause-stands g c =
    let seek = c.in-Ok.ensures.seeks in
    record {
      unspent = seek.unspent;
      taken = λ told. refl;
      rest = λ told.
          let self = c.args.self.now in
          let read = g.R.Read in
          let content = read.content self.inner in
          let t = and-left (read.tells self.inner) (read.steady self.inner) told in
          let s = and-right (read.tells self.inner) (read.steady self.inner) told in
          let target = start-at _ (read.place self.inner) (length content.bytes) c.in-Ok.field-0 (seek.moves t s).0 in
          let at : c.in-Ok.field-0 ≡ c.args.start + c.args.place =
          omega (
            arith,
            target,
            c.saturating_add.ensures,
            c.requires.start told,
            c.requires.within told,
            length-drop (read.place self.inner - self.taken) content.bytes,
            g.met.R.Read.short self.inner t,
            g.met.R.Read.place_fits self.inner t,
          ) in
          (seek.moves t s).1 ∙ ap (λ n. from_place n content) at ∙ payload-place content c.args.start (read.place self.inner) self.taken
          (c.requires.start told) c.args.place;
    }

pub returns-in-Err-clause-says : goal.returns-in-Err-clause-says
returns-in-Err-clause-says g c =
    sought-named g.R.Read g.R.Seek.seek_refuses c.args.self.now.inner c.seek_retrying.new.reader c.in-Err.e c.lost.result c.lost.ensures
    c.in-Err.ensures.seeks
