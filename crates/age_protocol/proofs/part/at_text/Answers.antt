use Rattle.std.proofs.Common.{◌≡◌, ◌∙◌, refl, sym, ap, subst, true, inl, inr, List, ℕ}
use Rattle.std.proofs.lemmas.Result.{on_ok_weaker, IfErr-weaker}
use Rattle.age_error.specs.declared.io.Error.{Error}
use Rattle.age_error.specs.declared.io.Error.TheVariants.{Failed}
use Rattle.age_io.specs.Stretch.{Stretch, whole}
use Rattle.age_armor.specs.Seeking.{OrAstray}
use Rattle.age_v1.specs.Payload.{Seal}
use Rattle.age_v1.specs.Armor.{Carries}
use Rattle.age_v1.specs.DeliveredArmor.{text_delivers, stretch_of}
use Rattle.age_protocol.specs.Opened.{IsNotOpened}
use Rattle.age_armor.specs.Reader.{armored_reader, armored_rest, armored_content, place_of, refuses_of}
use Rattle.age_stream.specs.Keeping.{IsPayloadRefusal}
use Rattle.age_protocol.proofs.Decrypted.{decrypts_weaker}
use Rattle.age_protocol.proofs.Opened.{lacks_front}
use Rattle.age_protocol.specs.WholeFiles.{read_of}
use Rattle.age_error.specs.DecryptErrors.{DecryptRefusal}
use Rattle.age_protocol.specs.DecryptingStreams.{RefusesOpening}
use Rattle.age_v1.specs.Identities.{AnswersFirst}
use Rattle.age_protocol.proofs.Reasons.{from_slice}
use Rattle.age_protocol.proofs.DecryptingStreams.{io_weaker}
use Rattle.age_protocol.specs.Texts.{HasFront}
use Rattle.age_protocol.specs.Parts.{StandsAt, IsPartAt, RefusesPart}
use Rattle.age_protocol.proofs.Parts.{memory_before, quiet_by, file_for, of_holds}
use Rattle.age_protocol.proofs.Standing.{begun, begun-or, same-content, fresh-text, begins-same}
use Rattle.age_protocol.proofs.part.at_text.Goals as goal

-- of a text in memory, what only seeks refuse with
failed_below : (seal_of : Seal) (place : ℕ) (e : Error) (key : List ℕ) (sealed : Stretch) (out : List ℕ)
    → RefusesPart seal_of (OrAstray (λ _. ⊥)) place e key sealed out
    → RefusesPart seal_of (λ f. f ≡ Failed) place e key sealed out
failed_below seal_of place e key sealed out why = elim why [
  | inl ends ↦ inl ends
  | inr other ↦ elim other [
    | inl long ↦ inr (inl long)
    | inr more ↦ elim more [
      | inl below ↦ elim below [
        | inl long ↦ inr
            (inl long)
        | inr astray ↦ elim astray [ inl failed ↦ inr (inr (inl failed)) | inr none ↦ absurd none ]
      ]
      | inr stops ↦ inr (inr (inr stops))
    ]
  ]
]

pub returns-in-Err-clause-cursor : goal.returns-in-Err-clause-cursor
returns-in-Err-clause-cursor g c = λ writer_told file plain carries for.
    memory_before g.W.Write.appended g.W.Write.refuses c.args.place c.args.count plain _ c.args.writer.now c.in-Err.e
    (g.met.W.Write.appends_nothing c.args.writer.now)
    (λ quiet. c.in-Err.ensures.opens.memory)

pub returns-in-Ok-clause-cursor : goal.returns-in-Ok-clause-cursor
returns-in-Ok-clause-cursor g c = λ writer_told file plain carries for.
    let bytes = c.in-Ok.bytes in
    let rest : armored_rest bytes ≡ whole file =
    c.in-Ok.ensures.opens.honest file (ap (λ s. s.ends_well) c.new.ensures.rest)
    (subst (λ (l : List ℕ). Carries l file) (sym (ap (λ s. s.bytes) c.new.ensures.rest)) carries) in
    quiet_by g.W.Write.appended g.W.Write.refuses c.args.place c.args.count plain _ _ c.args.writer.now c.at_bytes.new.writer c.at_bytes.result
    (λ u t. refl)
    (c.at_bytes.ensures.cursor refl writer_told (ap (λ s. s.ends_well) rest) plain
    (file_for g.S.Suite.seal_of _ plain file (armored_rest bytes).bytes (sym (ap (λ s. s.bytes) rest)) for))

pub returns-in-Ok-clause-standing : goal.returns-in-Ok-clause-standing
returns-in-Ok-clause-standing g c = λ writer_told.
    let bytes = c.in-Ok.bytes in
    let made = c.in-Ok.ensures.opens in
    let text = c.args.text.now in
    let rest : armored_rest bytes ≡ stretch_of (text_delivers text true) =
    made.rest ∙ ap (λ s. stretch_of (text_delivers s.bytes s.ends_well)) c.new.ensures.rest in
    let content : armored_content bytes ≡ stretch_of (text_delivers text true) =
    made.content ∙ same-content _ (whole text) _ 0 c.new.ensures.content c.new.ensures.place in
    let fresh = fresh-text (armored_rest bytes) (armored_content bytes) (stretch_of (text_delivers text true))
    (place_of bytes) rest content made.place in
    begun-or (HasFront (armored_rest bytes) (place_of bytes))
    (HasFront (stretch_of (text_delivers text true)) 0) _ _ g.W.Write.appended c.args.count
    (StandsAt g.S.Suite.seal_of c.args.place) c.args.writer.now c.at_bytes.new.writer
    (begins-same (armored_rest bytes) (stretch_of (text_delivers text true)) (place_of bytes) rest made.place) (λ key stanzas by. by)
    (c.at_bytes.ensures.standing fresh refl writer_told)

pub returns-in-Ok-clause-given : goal.returns-in-Ok-clause-given
returns-in-Ok-clause-given g c = λ writer_told.
    let bytes = c.in-Ok.bytes in
    let made = c.in-Ok.ensures.opens in
    let text = c.args.text.now in
    let rest : armored_rest bytes ≡ stretch_of (text_delivers text true) =
    made.rest ∙ ap (λ s. stretch_of (text_delivers s.bytes s.ends_well)) c.new.ensures.rest in
    let content : armored_content bytes ≡ stretch_of (text_delivers text true) =
    made.content ∙ same-content _ (whole text) _ 0 c.new.ensures.content c.new.ensures.place in
    let fresh = fresh-text (armored_rest bytes) (armored_content bytes) (stretch_of (text_delivers text true))
    (place_of bytes) rest content made.place in
    on_ok_weaker c.at_bytes.result
    (begun (HasFront (armored_rest bytes) (place_of bytes))
    (HasFront (stretch_of (text_delivers text true)) 0) _ _ g.W.Write.appended c.args.count
    (IsPartAt g.S.Suite.seal_of c.args.place c.args.count) c.args.writer.now c.at_bytes.new.writer
    (begins-same (armored_rest bytes) (stretch_of (text_delivers text true)) (place_of bytes) rest made.place) (λ key stanzas by. by))
    (c.at_bytes.ensures.given fresh refl writer_told)

pub returns-in-Ok-clause-io : goal.returns-in-Ok-clause-io
returns-in-Ok-clause-io g c =
    let bytes = c.in-Ok.bytes in
    IfErr-weaker c.at_bytes.result _ _
    (io_weaker _ _ (λ e why. elim why [
      | inl memory ↦ inl memory
      | inr other ↦ elim other [
        | inl text ↦ inr (inr (inr (inr (inl (from_slice refuses_of bytes c.new.result _ _ c.args.text.now e c.new.ensures.content
            c.new.ensures.place c.in-Ok.ensures.opens.named text)))))
        | inr rest ↦ elim rest [
          | inl writer ↦ inr (inl writer)
          | inr asked ↦ elim asked [
            | inl seek ↦ elim seek [
              | inl outside ↦ inr (inr (inl outside))
              | inr more ↦ elim more [
                | inl long ↦ inr (inr (inr (inr (inr (subst IsPayloadRefusal (sym long) tt)))))
                | inr lost ↦ elim lost [ inl failed ↦ inr (inr (inr (inl failed))) | inr none ↦ absurd none ]
              ]
            ]
            | inr payload ↦ inr (inr (inr (inr (inr payload))))
          ]
        ]
      ]
    ]))
    c.at_bytes.ensures.io

pub returns-in-Err-clause-cause : goal.returns-in-Err-clause-cause
returns-in-Err-clause-cause g c = λ writer_told. inl c.in-Err.ensures.opens.memory

pub returns-in-Ok-clause-cause : goal.returns-in-Ok-clause-cause
returns-in-Ok-clause-cause g c = λ writer_told.
    let bytes = c.in-Ok.bytes in
    let made = c.in-Ok.ensures.opens in
    let text = c.args.text.now in
    let seal_of = g.S.Suite.seal_of in
    let rest : armored_rest bytes ≡ stretch_of (text_delivers text true) =
    made.rest ∙ ap (λ s. stretch_of (text_delivers s.bytes s.ends_well)) c.new.ensures.rest in
    let content : armored_content bytes ≡ stretch_of (text_delivers text true) =
    made.content ∙ same-content _ (whole text) _ 0 c.new.ensures.content c.new.ensures.place in
    let fresh = fresh-text (armored_rest bytes) (armored_content bytes) (stretch_of (text_delivers text true))
    (place_of bytes) rest content made.place in
    IfErr-weaker c.at_bytes.result _ _
    (io_weaker _ _ (λ e why. elim why [
      | inl memory ↦ inl memory
      | inr other ↦ elim other [
        | inl tried ↦ inr (inr (inl (from_slice refuses_of bytes c.new.result _ _ c.args.text.now e c.new.ensures.content c.new.ensures.place
            c.in-Ok.ensures.opens.named tried)))
        | inr more ↦ elim more [
          | inl writes ↦ inr (inl writes)
          | inr part ↦ inr (inr (inr (begun (HasFront (armored_rest bytes) (place_of bytes))
              (HasFront (stretch_of (text_delivers text true)) 0) _ _ g.W.Write.appended c.args.count
              (RefusesPart seal_of (λ f. f ≡ Failed) c.args.place e) c.args.writer.now c.at_bytes.new.writer
              (begins-same (armored_rest bytes) (stretch_of (text_delivers text true)) (place_of bytes) rest made.place) (λ key stanzas by. by)
              (of_holds _ _ g.W.Write.appended c.args.count _
              (RefusesPart seal_of (λ f. f ≡ Failed) c.args.place e) c.args.writer.now c.at_bytes.new.writer
              (λ key sealed out. failed_below seal_of c.args.place e key sealed out) part))))
        ]
      ]
    ]))
    (c.at_bytes.ensures.cause fresh refl writer_told)

pub returns-in-Ok-clause-why : goal.returns-in-Ok-clause-why
returns-in-Ok-clause-why g c =
    let bytes = c.in-Ok.bytes in
    let made = c.in-Ok.ensures.opens in
    let text = c.args.text.now in
    let old = c.args.identities.now in
    let new = c.at_bytes.new.identities in
    let start : armored_rest bytes ≡ read_of text = made.rest ∙ ap (λ s. stretch_of (text_delivers s.bytes s.ends_well)) c.new.ensures.rest in
    let opening : (refusal : DecryptRefusal) → IsNotOpened g.I.Identity.unwraps armored_reader old new bytes refusal →
    RefusesOpening text (HasFront (read_of text) 0) (AnswersFirst g.I.Identity.unwraps old new) refusal = λ refusal why. elim why [
      | inl (same, (last, refuses)) ↦ inl (lacks_front _ bytes last _ text refuses refl start made.place refl refl
          (λ e. from_slice refuses_of bytes c.new.result _ _ text e c.new.ensures.content c.new.ensures.place made.named))
      | inr (h, nonce, input, answer, asks, key) ↦ inr
          (h, nonce, armored_rest input, answer, (_, rw (start, made.place) at (asks.front refl)), asks.first, key)
    ] in
    IfErr-weaker c.at_bytes.result _ _ (decrypts_weaker _ _ opening) c.at_bytes.ensures.unopened
