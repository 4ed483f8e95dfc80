use Rattle.std.proofs.Common.{◌∙◌, ◌&&◌, ap, subst, sym, inl, inr, List, ℕ, IsTrue}
use Rattle.age_io.specs.Stretch.{from_place}
use Rattle.age_v1.specs.Payload.{payload_key}
use Rattle.age_io.specs.Reading.{TriedAgain}
use Rattle.age_io.specs.Copying.{AppendsSome}
use Rattle.age_protocol.specs.Parts.{StandsAt, IsPartAt, RefusesPart}
use Rattle.age_stream.specs.Keeping.{IsPayloadRefusal, Stops}
use Rattle.age_stream.specs.Reader.{content_of, key_of, payload_of, refuses_of}
use Rattle.age_protocol.proofs.Reasons.{from_stream, stops-as}
use Rattle.age_protocol.proofs.OpenedFor.{never_fails}
use Rattle.age_protocol.proofs.Standing.{opened-part}
use Rattle.age_protocol.proofs.Parts.{refused_before, part_done, part_refused, some_holds}
use Rattle.age_protocol.proofs.part.at_bytes.Goals as goal

pub returns-in-Err-clause-cursor : goal.returns-in-Err-clause-cursor
returns-in-Err-clause-cursor g c = λ bytes_told writer_told well plain for.
    refused_before g.W.Write.appended g.W.Write.refuses _ c.args.place c.args.count plain c.args.writer.now c.in-Err.e
    (g.met.W.Write.appends_nothing c.args.writer.now)
    (c.in-Err.ensures.plaintext bytes_told well plain for)

pub returns-in-Err-write_part-clause-cursor : goal.returns-in-Err-write_part-clause-cursor
returns-in-Err-write_part-clause-cursor g c = λ bytes_told writer_told well plain for.
    let stream = c.in-Ok.stream in
    let stands = c.in-Ok.ensures.plaintext bytes_told well plain for in
    let told = c.in-Ok.ensures.tells ∙ bytes_told in
    let ends_well = ap (λ s. s.ends_well) stands.content in
    let writes = c.in-Err-write_part.ensures in
    part_refused g.W.Write.appended g.W.Write.refuses _ c.args.place c.args.count plain
    (content_of stream) _ _ c.args.writer.now c.write_part.new.writer c.in-Err-write_part.e stands.content
    (λ still. never_fails g.T.Read.faults _ _ still) (writes.front told writer_told ends_well) (λ past. writes.past_end told ends_well past)
    (λ within quiet. writes.why told ends_well within quiet)

pub returns-clause-cursor : goal.returns-clause-cursor
returns-clause-cursor g c = λ bytes_told writer_told well plain for.
    let stream = c.in-Ok.stream in
    let stands = c.in-Ok.ensures.plaintext bytes_told well plain for in
    let told = c.in-Ok.ensures.tells ∙ bytes_told in
    let ends_well = ap (λ s. s.ends_well) stands.content in
    let writes = c.in-Ok-write_part.ensures in
    part_done g.W.Write.appended g.W.Write.refuses _ c.args.place c.args.count plain
    (content_of stream) c.args.writer.now c.write_part.new.writer _ stands.content
    (writes.part told writer_told ends_well) (writes.front told writer_told ends_well) (λ past. writes.past_end told ends_well past)

pub returns-in-Err-write_part-clause-standing : goal.returns-in-Err-write_part-clause-standing
returns-in-Err-write_part-clause-standing g c = λ fresh bytes_told writer_told.
    let made = c.in-Ok.ensures in
    inr (opened-part _ _ _ c.args.bytes c.in-Ok.stream g.W.Write.appended c.args.count
    (StandsAt g.S.Suite.seal_of c.args.place) c.args.writer.now c.write_part.new.writer fresh bytes_told made.opened
    (c.write_part.ensures.standing (made.tells ∙ bytes_told) writer_told))

pub returns-clause-standing : goal.returns-clause-standing
returns-clause-standing g c = λ fresh bytes_told writer_told.
    let made = c.in-Ok.ensures in
    inr (opened-part _ _ _ c.args.bytes c.in-Ok.stream g.W.Write.appended c.args.count
    (StandsAt g.S.Suite.seal_of c.args.place) c.args.writer.now c.write_part.new.writer fresh bytes_told made.opened
    (c.write_part.ensures.standing (made.tells ∙ bytes_told) writer_told))

pub returns-clause-given : goal.returns-clause-given
returns-clause-given g c = λ fresh bytes_told writer_told.
    let made = c.in-Ok.ensures in
    opened-part _ _ _ c.args.bytes c.in-Ok.stream g.W.Write.appended c.args.count
    (IsPartAt g.S.Suite.seal_of c.args.place c.args.count) c.args.writer.now c.write_part.new.writer fresh bytes_told made.opened
    (c.in-Ok-write_part.ensures.given (made.tells ∙ bytes_told) writer_told)

pub returns-in-Err-write_part-clause-io : goal.returns-in-Err-write_part-clause-io
returns-in-Err-write_part-clause-io g c =
    let opened = c.in-Ok.ensures.opened in
    let reader = opened.opens.reader in
    elim c.in-Err-write_part.ensures.named [
      | inl memory ↦ inl memory
      | inr other ↦ elim other [
        | inl reads ↦ elim reads [
          | inl seek ↦ elim seek [
            | inl outside ↦ inr (inr (inr (inl (inl outside))))
            | inr more ↦ elim more [
              | inl long ↦ inr (inr (inr (inr (subst IsPayloadRefusal (sym long) tt))))
              | inr below ↦ inr (inr (inr (inl (inr below))))
            ]
          ]
          | inr tried ↦ elim (from_stream refuses_of g.T.Read.refuses _ c.in-Ok.stream opened.input c.args.bytes c.in-Err-write_part.e
              reader.named (λ s. s.is)
              opened.asks.narrows tried) [
                | inl own ↦ inr (inr (inr (inr own.is)))
                | inr text ↦ inr (inl text)
              ]
        ]
        | inr writes ↦ inr (inr (inl (c.args.count, writes)))
      ]
    ]

pub returns-in-Err-write_part-clause-cause : goal.returns-in-Err-write_part-clause-cause
returns-in-Err-write_part-clause-cause g c = λ fresh bytes_told writer_told.
    let made = c.in-Ok.ensures in
    let opened = made.opened in
    let reader = opened.opens.reader in
    let stream = c.in-Ok.stream in
    let suite = g.S.Suite in
    let e = c.in-Err-write_part.e in
    let told = made.tells ∙ bytes_told in
    let Holds = RefusesPart suite.seal_of g.T.Seek.seek_refuses c.args.place e in
    let before = c.args.writer.now in
    let after = c.write_part.new.writer in
    let part = λ (some : AppendsSome g.W.Write.appended c.args.count (Holds (key_of stream) (payload_of stream)) before after).
    opened-part _ _ _ c.args.bytes stream g.W.Write.appended c.args.count Holds before after fresh bytes_told opened some in
    let says = λ (holds : (out : List ℕ) → Holds (key_of stream) (payload_of stream) out).
    part (some_holds g.W.Write.appended c.args.count _ _ before after (λ out stands. holds out) (c.write_part.ensures.standing told writer_told)) in
    let same = opened.asks.same in
    let asked = λ (tried : TriedAgain refuses_of stream e).
    from_stream refuses_of g.T.Read.refuses _ stream opened.input c.args.bytes e reader.named (λ s. s.is) opened.asks.narrows tried in
    let stops = λ (own : Stops suite.seal_of (payload_key opened.file_key opened.nonce)
    (from_place (g.T.Read.place opened.input) (g.T.Read.content opened.input))
    (IsTrue (g.T.Read.tells opened.input && g.T.Read.steady opened.input)) e).
    subst (λ k. Stops suite.seal_of k (payload_of stream) (Unit {0}) e) (sym reader.same_key)
    (stops-as suite.seal_of _ _ (payload_of stream) _ _ e (λ u. rw (same.tells, same.steady) bytes_told) (λ u. sym reader.sealed) own) in
    elim c.in-Err-write_part.ensures.named [
      | inl memory ↦ inl memory
      | inr other ↦ elim other [
        | inl why ↦ elim why [
          | inl seek ↦ elim seek [
            | inl outside ↦ elim (c.in-Err-write_part.ensures.outside told writer_told outside) [
              | inl tried ↦ elim (asked tried) [ inl own ↦ inr (inr (inr (says (λ out. inr (inr (inr (stops own))))))) | inr text ↦ inr (inl text) ]
              | inr more ↦ elim more [
                | inl writes ↦ inr (inr (inl (c.args.count, writes)))
                | inr ends ↦ inr (inr (inr (part (some_holds g.W.Write.appended c.args.count _ _ before after
                    (λ out none. inl (ends.0, none.0, none.1)) ends.1))))
              ]
            ]
            | inr own ↦ elim own [
              | inl long ↦ inr (inr (inr (says (λ out. inr (inl long)))))
              | inr below ↦ inr
                  (inr (inr (says (λ out. inr (inr (inl below))))))
            ]
          ]
          | inr tried ↦ elim (asked tried) [ inl own ↦ inr (inr (inr (says (λ out. inr (inr (inr (stops own))))))) | inr text ↦ inr (inl text) ]
        ]
        | inr writes ↦ inr (inr (inl (c.args.count, writes)))
      ]
    ]

pub returns-in-Err-clause-unopened : goal.returns-in-Err-clause-unopened
returns-in-Err-clause-unopened g c = c.in-Err.ensures.refused
