use Rattle.std.proofs.Common.{◌∙◌, take, ap, arith, inl, inr, refl, sym}
use Rattle.age_io.proofs.Keeping.{same-later}
use Rattle.age_armor.proofs.Taking.{garbage_taken, spaces_taken}
use Rattle.age_v1.specs.DeliveredArmor.{ends_in}
use Rattle.age_armor.proofs.Refusing.{end-asked, kept-on, kept-as, kept-error}
use Rattle.age_armor.proofs.counted.Counted.take_trailing.Goals as goal

pub returns-then-not-are_spaces-clause-cause : goal.returns-then-not-are_spaces-clause-cause
returns-then-not-are_spaces-clause-cause g c = λ told other quiet.
    let loop = c.loop-count.invariant in
    let found = garbage_taken (take c.in-Ok.count c.read.new.buf) (g.R.Read.rest c.args.self.now.inner) (g.R.Read.rest c.loop-count.self.inner)
    (g.R.Read.rest c.read.new.self.inner)
    (sym c.are_spaces.ensures ∙ c.if-not-are_spaces.true) (c.in-Ok.ensures.bytes (loop.same.tells ∙ told)) (loop.so_far told) in
    rw found refl

pub returns-then-not-are_spaces-clause-why : goal.returns-then-not-are_spaces-clause-why
returns-then-not-are_spaces-clause-why g c = λ told.
    let loop = c.loop-count.invariant in
    inr (inl (ap ends_in (garbage_taken (take c.in-Ok.count c.read.new.buf) (g.R.Read.rest c.args.self.now.inner)
    (g.R.Read.rest c.loop-count.self.inner) (g.R.Read.rest c.read.new.self.inner)
    (sym c.are_spaces.ensures ∙ c.if-not-are_spaces.true) (c.in-Ok.ensures.bytes (loop.same.tells ∙ told)) (loop.so_far told))))

pub returns-in-Err-clause-why : goal.returns-in-Err-clause-why
returns-in-Err-clause-why g c = λ told.
    end-asked g.R.Read c.args.self.now.inner _ c.in-Err.e (λ other. c.loop-count.invariant.narrows c.in-Err.e (c.in-Err.ensures.why other))

pub loop-count-preserved : goal.loop-count-preserved
loop-count-preserved g c =
    let loop = c.loop-count.invariant in
    let kept = c.in-Ok.ensures.kept in
    record {
      lines = c.in-Ok.ensures.lines ∙ loop.lines;
      same = same-later g.R.Read c.args.self.now.inner c.loop-count.self.inner c.read.new.self.inner loop.same kept.keeps.same;
      narrows = λ e h. loop.narrows e (kept.keeps.narrows e h);
      origin = λ told. kept.origin (loop.same.tells ∙ told) ∙ loop.origin told;
      count = λ told. omega (arith, c.in-Ok.ensures.taken (loop.same.tells ∙ told), loop.count told, c.in-Ok.count-test);
      so_far = λ told. spaces_taken (take c.in-Ok.count c.read.new.buf) (g.R.Read.rest c.args.self.now.inner)
          (g.R.Read.rest c.loop-count.self.inner) (g.R.Read.rest c.read.new.self.inner)
          (sym c.are_spaces.ensures ∙ c.if-not-are_spaces.false) (c.in-Ok.ensures.bytes (loop.same.tells ∙ told)) (loop.so_far told);
    }

pub returns-in-Err-clause-kept : goal.returns-in-Err-clause-kept
returns-in-Err-clause-kept g c =
    let loop = c.loop-count.invariant in
    kept-error _ _ _ _ _ c.in-Err.e (kept-on _ _ c.args.self.now.inner c.loop-count.self.inner _ _ c.loop-count.self.taken _ loop.same
    loop.narrows loop.origin
    (λ told. omega (arith, loop.count told)) c.in-Err.ensures.kept)

pub returns-in-Ok-eq0-clause-kept : goal.returns-in-Ok-eq0-clause-kept
returns-in-Ok-eq0-clause-kept g c =
    let loop = c.loop-count.invariant in
    kept-as _ _ _ _ _ (kept-on _ _ c.args.self.now.inner c.loop-count.self.inner _ _ c.loop-count.self.taken _ loop.same loop.narrows loop.origin
    (λ told. omega (arith, loop.count told)) c.in-Ok-eq0.ensures.kept)
