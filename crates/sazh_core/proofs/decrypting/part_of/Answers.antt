use Rattle.std.proofs.Common.{◌∙◌, ap, inl, inr, refl, sym}
use Rattle.age.specs.Stretch.{Stretch}
use Rattle.age.specs.StreamReader.{content_of}
use Rattle.age.proofs.Decrypted.{both_told}
use Rattle.age.proofs.OpenedFor.{never_fails}
use Rattle.age.proofs.Parts.{file_for, memory_before, part_done, part_refused, refused_before}
use Rattle.sazh_core.proofs.decrypting.part_of.Goals as goal

pub returns-in-Err : goal.returns-in-Err
returns-in-Err g c = record {
  cursor = λ told writer_told well file plain carries for.
      memory_before g.W.Write.appended g.W.Write.refuses c.args.place c.args.count plain _ c.args.writer.now c.in-Err.error
      (g.met.W.Write.appends_nothing c.args.writer.now) (λ quiet. c.in-Err.ensures.memory);
  standing = λ told writer_told. inl refl;
  given = λ told writer_told. tt;
  refused = λ none. refl;
  why = tt;
  io = inl c.in-Err.ensures.memory;
  outside = λ told writer_told is. absurd (rw c.in-Err.ensures.memory at is);
}

pub returns-in-Err-open_file : goal.returns-in-Err-open_file
returns-in-Err-open_file g c =
    let text = c.in-Ok.ensures in
    record {
      cursor = λ told writer_told well file plain carries for.
          let rest = text.honest file well carries in
          refused_before g.W.Write.appended g.W.Write.refuses _ c.args.place c.args.count plain c.args.writer.now c.in-Err-open_file.error
          (g.met.W.Write.appends_nothing c.args.writer.now)
          (λ still. c.in-Err-open_file.ensures.plaintext (both_told _ _ _ _ text.tells text.steady told)
          (ap (λ (s : Stretch). s.ends_well) rest) plain
          (file_for g.S.Suite.seal_of _ plain file _ (sym (ap (λ (s : Stretch). s.bytes) rest)) for) (λ t. still t.source.inner.inner));
      standing = λ told writer_told. inl refl;
      given = λ told writer_told. tt;
      refused = λ decrypts. refl;
      why = (
        c.in-Ok.text,
        record { tells = text.tells; steady = text.steady; faults = text.faults; place = text.place; rest = text.rest; honest = text.honest },
        c.in-Err-open_file.ensures.refused,
      );
      io = tt;
      outside = λ told writer_told. tt;
    }

pub returns-in-Err-write_part : goal.returns-in-Err-write_part
returns-in-Err-write_part g c =
    let text = c.in-Ok.ensures in
    let made = c.in-Ok-open_file.ensures in
    let writes = c.in-Err-write_part.ensures in
    record {
      cursor = λ told writer_told well file plain carries for.
          let rest = text.honest file well carries in
          let text_told = both_told _ _ _ _ text.tells text.steady told in
          let stands = made.plaintext text_told (ap (λ (s : Stretch). s.ends_well) rest) plain
          (file_for g.S.Suite.seal_of _ plain file _ (sym (ap (λ (s : Stretch). s.bytes) rest)) for) in
          let stream_told = made.tells ∙ text_told in
          let ends_well = ap (λ (s : Stretch). s.ends_well) stands.content in
          part_refused g.W.Write.appended g.W.Write.refuses _ c.args.place c.args.count plain
          (content_of c.in-Ok-open_file.stream) _ _ c.args.writer.now
          c.write_part.new.writer c.in-Err-write_part.error stands.content (λ still. never_fails g.R.Read.faults _ _ still)
          (writes.front stream_told writer_told ends_well) (λ past. writes.past_end stream_told ends_well past)
          (λ within quiet. writes.why stream_told ends_well within quiet);
      standing = λ told writer_told.
          inr (
            c.in-Ok.text,
            record { tells = text.tells; steady = text.steady; faults = text.faults; place = text.place; rest = text.rest; honest = text.honest },
            c.in-Ok-open_file.stream,
            made.opened,
            writes.standing (made.tells ∙ both_told _ _ _ _ text.tells text.steady told) writer_told,
          );
      given = λ told writer_told. tt;
      refused = λ none. absurd none;
      why = tt;
      io = inr (
        c.in-Ok.text,
        record { tells = text.tells; steady = text.steady; faults = text.faults; place = text.place; rest = text.rest; honest = text.honest },
        c.in-Ok-open_file.stream,
        made.opened,
        writes.named,
      );
      outside = λ told writer_told is. (
        c.in-Ok.text,
        record { tells = text.tells; steady = text.steady; faults = text.faults; place = text.place; rest = text.rest; honest = text.honest },
        c.in-Ok-open_file.stream,
        made.opened,
        writes.outside (made.tells ∙ both_told _ _ _ _ text.tells text.steady told) writer_told is,
      );
    }

pub returns : goal.returns
returns g c =
    let text = c.in-Ok.ensures in
    let made = c.in-Ok-open_file.ensures in
    let writes = c.in-Ok-write_part.ensures in
    record {
      cursor = λ told writer_told well file plain carries for.
          let rest = text.honest file well carries in
          let text_told = both_told _ _ _ _ text.tells text.steady told in
          let stands = made.plaintext text_told (ap (λ (s : Stretch). s.ends_well) rest) plain
          (file_for g.S.Suite.seal_of _ plain file _ (sym (ap (λ (s : Stretch). s.bytes) rest)) for) in
          let stream_told = made.tells ∙ text_told in
          let ends_well = ap (λ (s : Stretch). s.ends_well) stands.content in
          part_done g.W.Write.appended g.W.Write.refuses _ c.args.place c.args.count plain (content_of c.in-Ok-open_file.stream) c.args.writer.now
          c.write_part.new.writer _ stands.content (writes.part stream_told writer_told ends_well) (writes.front stream_told writer_told ends_well)
          (λ past. writes.past_end stream_told ends_well past);
      standing = λ told writer_told.
          inr (
            c.in-Ok.text,
            record { tells = text.tells; steady = text.steady; faults = text.faults; place = text.place; rest = text.rest; honest = text.honest },
            c.in-Ok-open_file.stream,
            made.opened,
            writes.standing (made.tells ∙ both_told _ _ _ _ text.tells text.steady told) writer_told,
          );
      given = λ told writer_told. (
        c.in-Ok.text,
        record { tells = text.tells; steady = text.steady; faults = text.faults; place = text.place; rest = text.rest; honest = text.honest },
        c.in-Ok-open_file.stream,
        made.opened,
        writes.given (made.tells ∙ both_told _ _ _ _ text.tells text.steady told) writer_told,
      );
      refused = tt;
      why = tt;
      io = tt;
      outside = λ told writer_told. tt;
    }
