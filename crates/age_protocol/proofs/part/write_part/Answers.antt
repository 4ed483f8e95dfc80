use Rattle.std.proofs.Common.{◌≡◌, ◌∙◌, ◌+◌, ◌≤◌, refl, inl, inr, arith, sym, ap, subst, IsTrue, List, [], ℕ, length, take, drop}
use Rattle.age_io.specs.Stretch.{Stretch, from_place}
use Rattle.age_io.specs.Reading.{Delivers}
use Rattle.age_io.proofs.Reaching.{delivered-at}
use Rattle.std.proofs.lemmas.Result.{on_ok_weaker, on_err_weaker, IfErr-weaker}
use Rattle.age_stream.specs.Reader.{tells_of, content_of, steady_of, place_of, plain_rest_of, faults_of, refuses_of, key_of, payload_of}
use Rattle.age_stream.specs.ReadingLemmas.{both-true}
use Rattle.age_io.proofs.PartCopied.{none-copied}
use Rattle.age_protocol.proofs.Standing.{standing, standing-none, stand-moved, good-moved, given}
use Rattle.age_io.specs.Cursor.{IsOutside}
use Rattle.age_protocol.proofs.Parts.{ends_before, refused_past, never_past, never_refused, either_way, start_within}
use Rattle.age_protocol.proofs.Accepted.{memory_or_not}
use Rattle.age_io.proofs.Retrying.{tried-narrows}
use Rattle.age_io.specs.Copying.{AppendsFront}
use Rattle.age_protocol.proofs.part.write_part.Goals as goal

pub returns-in-Err-clause-front : goal.returns-in-Err-clause-front
returns-in-Err-clause-front g c = λ told writer_told well. none-copied g.W.Write.appended _ c.args.writer.now
    (g.met.W.Write.appends_nothing c.args.writer.now)

pub returns-in-Err-clause-past_end : goal.returns-in-Err-clause-past_end
returns-in-Err-clause-past_end g c = λ told well past.
    let stream = c.args.stream.now in
    let seeks = c.in-Err.ensures.seeks in (
      refl,
      λ other quiet. refused_past c.args.place (length (content_of stream).bytes) c.in-Err.e past
          (seeks.refused told well (seeks.cause told well other quiet)),
    )

pub returns-in-Ok-clause-part : goal.returns-in-Ok-clause-part
returns-in-Ok-clause-part g c = λ told writer_told well.
    let stream = c.args.stream.now in
    let bytes = (content_of stream).bytes in
    let seeks = c.in-Ok.ensures.seeks in
    let steady : IsTrue (steady_of stream) = both-true (tells_of stream) (content_of stream).ends_well told well in
    let there = seeks.moves told steady in
    let rest = ap (λ s. s.bytes) there.1 ∙ ap (λ n. drop n bytes) (seeks.leads told) in
    let within = start_within c.args.place (length bytes) c.in-Ok._start (seeks.leads told) there.0 in
    on_ok_weaker c.copy_some.result
    (λ done. (within, subst (λ (l : List ℕ). g.W.Write.appended c.args.writer.now (take c.args.count l) c.copy_some.new.writer) rest done.0))
    (c.copy_some.ensures.part (seeks.same_tells ∙ told) writer_told)

pub returns-in-Ok-clause-front : goal.returns-in-Ok-clause-front
returns-in-Ok-clause-front g c = λ told writer_told well.
    let stream = c.args.stream.now in
    let bytes = (content_of stream).bytes in
    let seeks = c.in-Ok.ensures.seeks in
    let steady : IsTrue (steady_of stream) = both-true (tells_of stream) (content_of stream).ends_well told well in
    let there = seeks.moves told steady in
    let rest = ap (λ s. s.bytes) there.1 ∙ ap (λ n. drop n bytes) (seeks.leads told) in
    subst (λ (l : List ℕ). AppendsFront g.W.Write.appended (take c.args.count l) c.args.writer.now c.copy_some.new.writer) rest
    (c.copy_some.ensures.front (seeks.same_tells ∙ told) writer_told)

pub returns-in-Ok-clause-past_end : goal.returns-in-Ok-clause-past_end
returns-in-Ok-clause-past_end g c = λ told well past.
    let stream = c.args.stream.now in
    let seeks = c.in-Ok.ensures.seeks in
    let steady : IsTrue (steady_of stream) = both-true (tells_of stream) (content_of stream).ends_well told well in
    absurd (never_past c.args.place (length (content_of stream).bytes) c.in-Ok._start past (seeks.moves told steady).0)

pub returns-in-Err-clause-stays : goal.returns-in-Err-clause-stays
returns-in-Err-clause-stays g c = λ told well past. c.in-Err.ensures.seeks.stays told

pub returns-in-Ok-clause-stays : goal.returns-in-Ok-clause-stays
returns-in-Ok-clause-stays g c = λ told well past.
    let stream = c.args.stream.now in
    let seeks = c.in-Ok.ensures.seeks in
    let steady : IsTrue (steady_of stream) = both-true (tells_of stream) (content_of stream).ends_well told well in
    absurd (never_past c.args.place (length (content_of stream).bytes) c.in-Ok._start past (seeks.moves told steady).0)

pub returns-in-Err-clause-why : goal.returns-in-Err-clause-why
returns-in-Err-clause-why g c = λ told well within quiet.
    let stream = c.args.stream.now in
    let seeks = c.in-Err.ensures.seeks in
    inl (elim (memory_or_not c.in-Err.e) [
      | inl memory ↦ memory
      | inr other ↦ absurd (never_refused c.args.place (length (content_of stream).bytes) c.in-Err.e within
          (seeks.refused told well (seeks.cause told well other quiet)))
    ])

pub returns-in-Err-clause-named : goal.returns-in-Err-clause-named
returns-in-Err-clause-named g c =
    elim c.in-Err.ensures.seeks.why [ inl seek ↦ inr (inl (inl seek)) | inr own ↦ inr (inl (inr (inl (c.in-Err.ensures.target.patient, own)))) ]

pub returns-in-Ok-clause-why : goal.returns-in-Ok-clause-why
returns-in-Ok-clause-why g c = λ told well within quiet.
    let stream = c.args.stream.now in
    let seeks = c.in-Ok.ensures.seeks in
    let steady : IsTrue (steady_of stream) = both-true (tells_of stream) (content_of stream).ends_well told well in
    let ends = ap (λ s. s.ends_well) (seeks.moves told steady).1 ∙ well in
    let copied = c.copy_some.ensures in
    let rose : faults_of c.seek.new.self ≤ faults_of c.copy_some.new.reader =
    either_way c.copy_some.result (on_ok_weaker c.copy_some.result (λ gives. gives.no_fewer_faults) copied.stands)
    (on_err_weaker c.copy_some.result (λ left. left.same.faults) copied.left) in
    copied.why (seeks.same_tells ∙ told) ends (record { same = omega (arith, quiet.same, rose, seeks.no_fewer_faults); below = quiet.below })

pub returns-in-Ok-clause-named : goal.returns-in-Ok-clause-named
returns-in-Ok-clause-named g c =
    let reader = c.args.stream.now in
    IfErr-weaker c.copy_some.result _ _
    (λ e why. elim why [
      | inl memory ↦ inl memory
      | inr other ↦ inr (elim other [
        | inl reads ↦ inl (inr (tried-narrows refuses_of reader c.seek.new.self c.in-Ok.ensures.seeks.narrows e reads))
        | inr writes ↦ inr writes
      ])
    ])
    c.copy_some.ensures.named

pub returns-in-Err-clause-standing : goal.returns-in-Err-clause-standing
returns-in-Err-clause-standing g c = λ told writer_told.
    standing-none g.S.Suite.seal_of g.W.Write.appended c.args.count c.args.place _ (payload_of c.args.stream.now) c.args.writer.now
    (g.met.W.Write.appends_nothing c.args.writer.now)

pub returns-in-Ok-clause-standing : goal.returns-in-Ok-clause-standing
returns-in-Ok-clause-standing g c = λ told writer_told.
    let stream = c.args.stream.now in
    let seek = c.in-Ok.ensures in
    let new_told = seek.seeks.same_tells ∙ told in
    let there = seek.seeks.arrives told ∙ seek.seeks.leads told in
    standing g.S.Suite.seal_of g.W.Write.appended c.args.count c.args.place (key_of stream)
    (payload_of stream) _ c.args.writer.now c.copy_some.new.writer
    (stand-moved g.S.Suite.seal_of (key_of stream) _ (payload_of stream).bytes _ c.args.place _ _ seek.leaves.key
    (ap (λ s. s.bytes) (seek.leaves.payload told)) there (c.reader_law.ensures.stands new_told))
    (c.copy_some.ensures.front new_told writer_told)

pub returns-in-Ok-clause-given : goal.returns-in-Ok-clause-given
returns-in-Ok-clause-given g c = λ told writer_told.
    let stream = c.args.stream.now in
    let seek = c.in-Ok.ensures in
    let new_told = seek.seeks.same_tells ∙ told in
    let there = seek.seeks.arrives told ∙ seek.seeks.leads told in
    let law = c.reader_law.ensures in
    on_ok_weaker c.copy_some.result
    (λ done.
    given g.S.Suite.seal_of g.W.Write.appended c.args.count c.args.place (key_of stream)
    (payload_of stream) _ c.args.writer.now c.copy_some.new.writer
    (stand-moved g.S.Suite.seal_of (key_of stream) _ (payload_of stream).bytes _ c.args.place _ _ seek.leaves.key
    (ap (λ s. s.bytes) (seek.leaves.payload told)) there (law.stands new_told))
    (λ well. good-moved g.S.Suite.seal_of (key_of stream) _ (payload_of stream) _ c.args.place _ _ seek.leaves.key
    (seek.leaves.payload told) there (law.end new_told well)) done)
    (c.copy_some.ensures.part new_told writer_told)

pub returns-in-Ok-clause-stands : goal.returns-in-Ok-clause-stands
returns-in-Ok-clause-stands g c = λ told well.
    let stream = c.args.stream.now in
    let content = content_of stream in
    let seeks = c.in-Ok.ensures.seeks in
    let new_told = seeks.same_tells ∙ told in
    let steady : IsTrue (steady_of stream) = both-true (tells_of stream) content.ends_well told well in
    let there = seeks.moves told steady in
    let start = c.in-Ok._start in
    let rest = ap (λ s. s.bytes) there.1 ∙ ap (λ n. drop n content.bytes) (seeks.leads told) in
    let new = c.copy_some.new.reader in
    on_ok_weaker c.copy_some.result
    (λ gives.
    let front = take c.args.count (plain_rest_of c.seek.new.self).bytes in
    let came : Delivers front (from_place start content) (plain_rest_of new) =
    subst (λ (s : Stretch). Delivers front s (plain_rest_of new)) there.1 (gives.bytes new_told) in
    let moved : place_of new ≡ start + length front = gives.moves new_told ∙ ap (λ (n : ℕ). n + length front) (seeks.arrives told) in (
      moved ∙ ap (λ (n : ℕ). n + length front) (seeks.leads told) ∙ ap (λ (l : List ℕ). c.args.place + length (take c.args.count l)) rest,
      (delivered-at content (plain_rest_of new) start front came).1 ∙ ap (λ (n : ℕ). from_place n content) (sym moved),
    ))
    c.copy_some.ensures.stands

pub returns-in-Err-clause-outside : goal.returns-in-Err-clause-outside
returns-in-Err-clause-outside g c = λ told writer_told outside.
    let stream = c.args.stream.now in
    let ends = ends_before (payload_of stream) c.args.place (place_of stream) c.in-Err.e outside (c.in-Err.ensures.target.refused told outside) in
    inr (inr (
      ends.0,
      record { out = []; most = omega arith; holds = (refl, ends.1); done = g.met.W.Write.appends_nothing c.args.writer.now },
    ))

pub returns-in-Ok-clause-outside : goal.returns-in-Ok-clause-outside
returns-in-Ok-clause-outside g c = λ told writer_told.
    IfErr-weaker c.copy_some.result _ _
    (λ e why outside. elim why [
      | inl memory ↦ absurd (subst IsOutside memory outside)
      | inr other ↦ elim other [
        | inl reads ↦ inl (tried-narrows refuses_of c.args.stream.now c.seek.new.self c.in-Ok.ensures.seeks.narrows e reads)
        | inr writes ↦ inr (inl writes)
      ]
    ])
    c.copy_some.ensures.named
