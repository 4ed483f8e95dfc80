use Rattle.std.proofs.Common.{◌≡◌, ◌/◌, ◌∙◌, ap, arith, inl, inr, length, refl, sym, subst}
use Rattle.age.specs.StreamReader.{payload_of, place_of, content_of, plain_rest_of, HasChunk}
use Rattle.age.specs.Stretch.{from_place}
use Rattle.age_examples.proofs.BeforeEnd.{before_end}
use Rattle.age.specs.ReadingLemmas.{quiet_from}
use Rattle.age_examples.proofs.Looked.{found, looked, missing, refused, sound}
use Rattle.age_examples.proofs.turns.byte_at.Goals as goal

pub returns-else-count-eq0-clause-keeps_last : goal.returns-else-count-eq0-clause-keeps_last
returns-else-count-eq0-clause-keeps_last g c = λ told has b is.
    let reader = c.args.reader.now in
    let apart = before_end (payload_of reader) c.args.place (place_of reader) has in
    c.in-Ok-read.ensures.chunks.keeps_last b (c.in-Ok.ensures.chunks.same_last told apart b is)

pub returns-else-count-eq0-clause-found : goal.returns-else-count-eq0-clause-found
returns-else-count-eq0-clause-found g c = λ told has there.
    let reader = c.args.reader.now in
    let seek = c.in-Ok.ensures in
    let apart = before_end (payload_of reader) c.args.place (place_of reader) has in
    let leads : c.in-Ok.field-0 ≡ c.args.place = seek.seeks.leads told in
    c.in-Ok-read.ensures.opens.held (seek.chunks.finds told apart (subst (λ n. HasChunk reader (n / 65536)) (sym leads) there))
    ∙ seek.opens.end told apart

pub returns-else-count-eq0-clause-byte : goal.returns-else-count-eq0-clause-byte
returns-else-count-eq0-clause-byte g c = λ told steady.
    let seek = c.in-Ok.ensures.seeks in
    let read = c.in-Ok-read.ensures.reads in
    let told_then = seek.same_tells ∙ told in
    let content = content_of c.args.reader.now in
    let room = c.read.new.buf in
    let at = (seek.moves told steady).1 ∙ ap (λ n. from_place n content) (seek.leads told) in
    let one : length room ≡ 1 = omega (arith, c.read.auto.buf) in
    found content.bytes c.args.place c.in-Ok-read.count room
    (looked content (plain_rest_of c.seek.new.self)
    (plain_rest_of c.read.new.self) c.args.place c.in-Ok-read.count room one read.count at (read.bytes told_then) (read.end told_then))
    c.if-count-eq0.false one

pub returns-in-Err-clause-why : goal.returns-in-Err-clause-why
returns-in-Err-clause-why g c = elim c.in-Err.ensures.seeks.why [
  | inl outside ↦ inl outside
  | inr why ↦ inr (inl why)
]

pub returns-in-Err-read-clause-why : goal.returns-in-Err-read-clause-why
returns-in-Err-read-clause-why g c = inr (inl (c.in-Ok.ensures.seeks.narrows c.in-Err-read.error c.in-Err-read.ensures.reads.why))

pub returns-then-count-eq0-clause-why : goal.returns-then-count-eq0-clause-why
returns-then-count-eq0-clause-why g c = inr (inr (
  refl,
  λ told steady.
      let seek = c.in-Ok.ensures.seeks in
      let read = c.in-Ok-read.ensures.reads in
      let told_then = seek.same_tells ∙ told in
      let content = content_of c.args.reader.now in
      let room = c.read.new.buf in
      let at = (seek.moves told steady).1 ∙ ap (λ n. from_place n content) (seek.leads told) in
      let one : length room ≡ 1 = omega (arith, c.read.auto.buf) in
      missing content.bytes c.args.place c.in-Ok-read.count room
      (looked content (plain_rest_of c.seek.new.self)
      (plain_rest_of c.read.new.self) c.args.place c.in-Ok-read.count room one read.count at (read.bytes told_then) (read.end told_then))
      c.if-count-eq0.true,
))

pub returns-else-count-eq0-clause-narrows : goal.returns-else-count-eq0-clause-narrows
returns-else-count-eq0-clause-narrows g c = λ e why. c.in-Ok.ensures.seeks.narrows e (c.in-Ok-read.ensures.reads.narrows e why)

pub returns-in-Err-clause-cause : goal.returns-in-Err-clause-cause
returns-in-Err-clause-cause g c = λ told steady well memory quiet.
    let seek = c.in-Err.ensures.seeks in
    refused (content_of c.args.reader.now).bytes c.args.place c.in-Err.error (seek.refused told well (seek.cause told well memory quiet))

pub returns-in-Err-read-clause-cause : goal.returns-in-Err-read-clause-cause
returns-in-Err-read-clause-cause g c = λ told steady well memory quiet.
    let seek = c.in-Ok.ensures.seeks in
    let read = c.in-Err-read.ensures.reads in
    let content = content_of c.args.reader.now in
    let at = (seek.moves told steady).1 ∙ ap (λ n. from_place n content) (seek.leads told) in
    let fault = read.cause (seek.same_tells ∙ told) memory (quiet_from seek.no_fewer_faults read.no_fewer_faults quiet) in
    absurd (sound content (plain_rest_of c.seek.new.self) c.args.place well at fault)

pub returns-then-count-eq0-clause-cause : goal.returns-then-count-eq0-clause-cause
returns-then-count-eq0-clause-cause g c = λ told steady well memory quiet.
    let seek = c.in-Ok.ensures.seeks in
    let read = c.in-Ok-read.ensures.reads in
    let told_then = seek.same_tells ∙ told in
    let content = content_of c.args.reader.now in
    let room = c.read.new.buf in
    let at = (seek.moves told steady).1 ∙ ap (λ n. from_place n content) (seek.leads told) in
    let one : length room ≡ 1 = omega (arith, c.read.auto.buf) in
    missing content.bytes c.args.place c.in-Ok-read.count room
    (looked content (plain_rest_of c.seek.new.self)
    (plain_rest_of c.read.new.self) c.args.place c.in-Ok-read.count room one read.count at (read.bytes told_then) (read.end told_then))
    c.if-count-eq0.true
