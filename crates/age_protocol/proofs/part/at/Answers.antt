use Rattle.std.proofs.Common.{◌≡◌, ◌∙◌, sym, ap, subst, refl, inl, inr, true, List, ◌++◌, ℕ, IsTrue}
use Rattle.std.proofs.lemmas.Result.{on_ok_weaker, IfErr-weaker}
use Rattle.age_v1.specs.Armor.{Carries}
use Rattle.age_v1.specs.DeliveredArmor.{text_delivers, stretch_of}
use Rattle.age_protocol.specs.Texts.{BeginsText, HasFront}
use Rattle.age_error.specs.DecryptErrors.{DecryptRefusal}
use Rattle.age_protocol.specs.DecryptingStreams.{RefusesOpening}
use Rattle.age_v1.specs.Identities.{AnswersFirst}
use Rattle.age_error.specs.declared.io.Error.TheVariants.{Failed}
use Rattle.age_protocol.specs.Parts.{StandsAt, IsPartAt, RefusesPart}
use Rattle.age_protocol.specs.WholeFiles.{LacksFront, RefusesReading, read_of}
use Rattle.age_protocol.proofs.Decrypted.{decrypts_weaker}
use Rattle.age_protocol.proofs.DecryptingStreams.{io_weaker}
use Rattle.age_protocol.proofs.Parts.{memory_before, memory_only, quiet_by}
use Rattle.age_protocol.proofs.Texts.{refuses_answered}
use Rattle.age_protocol.proofs.Standing.{begun, begun-or, begins-read}
use Rattle.age_protocol.proofs.part.at.Goals as goal

pub returns-in-Err : goal.returns-in-Err
returns-in-Err g c = record {
  cursor = λ reader_told writer_told well file plain carries for.
      memory_before g.W.Write.appended g.W.Write.refuses c.args.place c.args.count plain _ c.args.writer.now c.in-Err.e
      (g.met.W.Write.appends_nothing c.args.writer.now)
      (memory_only c.in-Err.e _ _ well (c.in-Err.ensures.cause reader_told));
  standing = λ reader_told writer_told. inl refl;
  given = λ reader_told writer_told. tt;
  io = elim c.in-Err.ensures.keeps.why [ inl memory ↦ inl memory | inr tried ↦ inr (inl tried) ];
  cause = λ reader_told writer_told. elim c.in-Err.ensures.keeps.why [ inl memory ↦ inl memory | inr tried ↦ inr (inl tried) ];
  why = λ reader_told. tt;
  refused = λ none. refl;
}

pub returns : goal.returns
returns g c =
    let reader = c.args.reader.now in
    let rest = g.R.Read.rest reader in
    let text = c.deref.result.now in
    let front = BeginsText g.R.Read.tells g.R.Read.rest reader in
    let same : IsTrue (g.R.Read.tells reader) → text ≡ rest.bytes = λ reader_told.
    c.deref.ensures.value ∙ c.in-Ok.ensures.bytes reader_told ∙ ap (λ (l : List ℕ). l ++ rest.bytes) c.new-text.ensures.items in
    record {
      cursor = λ reader_told writer_told well file plain carries for.
          quiet_by g.W.Write.appended g.W.Write.refuses c.args.place c.args.count plain _ _ c.args.writer.now c.at_text.new.writer
          c.at_text.result (λ quiet. tt)
          (c.at_text.ensures.cursor writer_told file plain (subst (λ (l : List ℕ). Carries l file) (sym (same reader_told)) carries) for);
      standing = λ reader_told writer_told.
          begun-or (HasFront (stretch_of (text_delivers text true)) 0) front _ _ g.W.Write.appended c.args.count
          (StandsAt g.S.Suite.seal_of c.args.place) c.args.writer.now
          c.at_text.new.writer (begins-read g.R.Read.tells g.R.Read.rest reader text (same reader_told) (c.in-Ok.ensures.end reader_told))
          (λ key stanzas by. by)
          (c.at_text.ensures.standing writer_told);
      given = λ reader_told writer_told.
          on_ok_weaker c.at_text.result
          (begun (HasFront (stretch_of (text_delivers text true)) 0) front _ _ g.W.Write.appended c.args.count
          (IsPartAt g.S.Suite.seal_of c.args.place c.args.count) c.args.writer.now
          c.at_text.new.writer (begins-read g.R.Read.tells g.R.Read.rest reader text (same reader_told) (c.in-Ok.ensures.end reader_told))
          (λ key stanzas by. by))
          (c.at_text.ensures.given writer_told);
      io =
          IfErr-weaker c.at_text.result _ _
          (io_weaker _ _ (λ e why. elim why [
            | inl memory ↦ inl memory
            | inr other ↦ elim other [
              | inl writes ↦ inr (inr (inl writes))
              | inr more ↦ elim more [
                | inl outside ↦ inr (inr (inr (inl outside)))
                | inr failing ↦ elim failing [
                  | inl failed ↦ inr (inr (inr (inr (inl failed))))
                  | inr rest ↦ elim rest [
                    | inl reading ↦ inr (inr (inr (inr (inr (inl (text, reading))))))
                    | inr payload ↦ inr (inr (inr (inr (inr (inr payload)))))
                  ]
                ]
              ]
            ]
          ]))
          c.at_text.ensures.io;
      why = λ reader_told.
          let asked = AnswersFirst g.I.Identity.unwraps c.args.identities.now c.at_text.new.identities in
          let opening : (refusal : DecryptRefusal) → RefusesOpening text (HasFront (read_of text) 0) asked refusal
          → RefusesOpening rest.bytes front asked refusal =
          λ refusal why. elim why [
            | inl lacks ↦ inl (subst (λ (l : List ℕ). LacksFront l refusal) (same reader_told) lacks)
            | inr answered ↦ inr (refuses_answered _ front
                (begins-read g.R.Read.tells g.R.Read.rest reader text (same reader_told) (c.in-Ok.ensures.end reader_told)) asked asked
                (λ stanzas answer by. by) refusal answered)
          ] in
          IfErr-weaker c.at_text.result _ _ (decrypts_weaker _ _ opening) c.at_text.ensures.why;
      cause = λ reader_told writer_told.
          IfErr-weaker c.at_text.result _ _
          (io_weaker _ _ (λ e why. elim why [
            | inl memory ↦ inl memory
            | inr other ↦ elim other [
              | inl writes ↦ inr (inr (inl writes))
              | inr more ↦ elim more [
                | inl reading ↦ inr (inr (inr (inl (subst (λ (l : List ℕ). RefusesReading l e) (same reader_told) reading))))
                | inr part ↦ inr (inr (inr (inr (begun (HasFront (stretch_of (text_delivers text true)) 0) front _ _ g.W.Write.appended c.args.count
                    (RefusesPart g.S.Suite.seal_of (λ f. f ≡ Failed) c.args.place e) c.args.writer.now c.at_text.new.writer
                    (begins-read g.R.Read.tells g.R.Read.rest reader text (same reader_told) (c.in-Ok.ensures.end reader_told))
                    (λ key stanzas by. by) part))))
              ]
            ]
          ]))
          (c.at_text.ensures.cause writer_told);
      refused = c.at_text.ensures.refused;
    }
