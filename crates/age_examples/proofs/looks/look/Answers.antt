use Rattle.std.proofs.Common.{◌∙◌, arith, ap, inr}
use Rattle.std.proofs.lemmas.Result.{on_ok_weaker, IfErr-weaker}
use Rattle.age.specs.ArmorReader.{armored_content, armored_rest}
use Rattle.age.specs.Stretch.{from_place}
use Rattle.age.specs.ReadingLemmas.{quiet_from}
use Rattle.age_examples.proofs.Looked.{look, refused, sound}
use Rattle.age_examples.proofs.looks.look.Goals as goal

pub returns-in-Ok-clause-learns : goal.returns-in-Ok-clause-learns
returns-in-Ok-clause-learns g c =
    let first = c.in-Ok.ensures.besides.learns.learns in
    let last = c.read.ensures.besides.learns.more in
    record {
      further = omega (arith, first.further, last.further);
      end = λ known. last.end (first.end known);
      noting = λ noting. first.noting (last.noting noting);
    }

pub returns-in-Ok-clause-lines : goal.returns-in-Ok-clause-lines
returns-in-Ok-clause-lines g c = λ told steady noting behind.
    on_ok_weaker c.read.result (λ reached. omega (
      arith,
      c.in-Ok.ensures.besides.counts.marks told steady noting
          behind,
      c.read.ensures.besides.learns.lines.1,
    ))
    (c.read.ensures.besides.learns.reaches (c.in-Ok.ensures.seeks.same_tells ∙ told))

pub returns-in-Ok-clause-content : goal.returns-in-Ok-clause-content
returns-in-Ok-clause-content g c = λ told.
    let seek = c.in-Ok.ensures.seeks in
    c.read.ensures.reads.same_content (seek.same_tells ∙ told) ∙ seek.same_content told

pub returns-in-Ok-clause-byte : goal.returns-in-Ok-clause-byte
returns-in-Ok-clause-byte g c = λ told steady.
    let seek = c.in-Ok.ensures.seeks in
    let read = c.read.ensures.reads in
    let told_then = seek.same_tells ∙ told in
    let at = (seek.moves told steady).1 ∙ ap (λ n. from_place n (armored_content c.args.reader.now)) (seek.leads told) in
    look (armored_content c.args.reader.now) (armored_rest c.seek.new.self) (armored_rest c.read.new.self) c.args.place _ c.read.result
    (omega (arith, c.read.auto.buf, c.fits-byte, c.told-byte)) at read.count (read.bytes told_then) (read.end told_then)

pub returns-in-Ok-clause-why : goal.returns-in-Ok-clause-why
returns-in-Ok-clause-why g c = IfErr-weaker c.read.result _ _ (λ e why. inr (c.in-Ok.ensures.seeks.narrows e why)) c.read.ensures.reads.why

pub returns-in-Ok-clause-narrows : goal.returns-in-Ok-clause-narrows
returns-in-Ok-clause-narrows g c =
    on_ok_weaker c.read.result (λ narrows e why. c.in-Ok.ensures.seeks.narrows e (narrows e why)) c.read.ensures.reads.narrows

pub returns-in-Err-clause-cause : goal.returns-in-Err-clause-cause
returns-in-Err-clause-cause g c = λ told steady well memory quiet.
    let seek = c.in-Err.ensures.seeks in
    refused (armored_content c.args.reader.now).bytes c.args.place c.in-Err.error (seek.refused told well (seek.cause told well memory quiet))

pub returns-in-Ok-clause-cause : goal.returns-in-Ok-clause-cause
returns-in-Ok-clause-cause g c = λ told steady well.
    let seek = c.in-Ok.ensures.seeks in
    let read = c.read.ensures.reads in
    let at = (seek.moves told steady).1 ∙ ap (λ n. from_place n (armored_content c.args.reader.now)) (seek.leads told) in
    IfErr-weaker c.read.result _ _ (λ e cause memory quiet.
    absurd (sound (armored_content c.args.reader.now) (armored_rest c.seek.new.self) c.args.place well at
    (cause memory (quiet_from seek.no_fewer_faults read.no_fewer_faults quiet)))) (read.cause (seek.same_tells ∙ told))
