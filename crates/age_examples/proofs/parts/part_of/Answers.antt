use Rattle.std.proofs.Common.{◌≡◌, ◌∙◌, ap, inl, inr, arith, length}
use Rattle.age.specs.FileErrorVariants.{Io}
use Rattle.age.proofs.Decrypted.{by_cause}
use Rattle.age.specs.StreamReader.{content_of, place_of}
use Rattle.age.proofs.Delivering.{refilled}
use Rattle.age.proofs.OpenedFor.{never_fails}
use Rattle.age_examples.proofs.Places.{part_is, refusal_is}
use Rattle.age_examples.proofs.parts.part_of.Goals as goal

pub returns-in-Err : goal.returns-in-Err
returns-in-Err g c = λ told well never file plain carries for. inl (c.in-Err.ensures.plaintext told well file plain carries for never)

pub returns-in-Err-read_at : goal.returns-in-Err-read_at
returns-in-Err-read_at g c = λ told well never file plain carries for.
    let stream = c.in-Ok.stream in
    let stands = c.in-Ok.ensures.plaintext told well file plain carries for in
    by_cause inl (λ past. inr (ap Io past.0, past.1))
    (refusal_is c.in-Err-read_at.error c.args.place (place_of stream) (content_of stream) plain stands.place stands.content
    (λ other. c.in-Err-read_at.ensures.refuses.cause (c.in-Ok.ensures.tells ∙ told) (ap (λ s. s.ends_well) stands.content) other
    (never_fails (λ s. g.R.Read.faults s.source.inner.source.inner.inner) stream c.read_at.new.self (λ t. never t.source.inner.source.inner.inner))))

pub returns : goal.returns
returns g c = λ told well never file plain carries for.
    let stream = c.in-Ok.stream in
    let stands = c.in-Ok.ensures.plaintext told well file plain carries for in
    let part = c.in-Ok-room_for.part in
    let size : length c.read_at.new.buf ≡ length part.items = omega (arith, c.read_at.auto.buf, c.deref_mut.ensures.len, part.ok.0) in
    let filled = refilled part.items c.read_at.new.buf part.len part.ok.0 size in
    let (start, leads, read) = c.in-Ok-read_at.ensures.gives.cursor (c.in-Ok.ensures.tells ∙ told) (ap (λ s. s.ends_well) stands.content) in
    (rw filled at c.truncate.ensures.items) ∙ read
    ∙ part_is c.args.place (length c.read_at.new.buf) c.args.count (place_of stream) start (content_of stream) plain
    (size ∙ c.in-Ok-room_for.ensures.length) stands.place stands.content leads

pub returns-in-Err-room_for : goal.returns-in-Err-room_for
returns-in-Err-room_for g c = λ told ends never file plain carries is_for. inl c.in-Err-room_for.ensures.memory
