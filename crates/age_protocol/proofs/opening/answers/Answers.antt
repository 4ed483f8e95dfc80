use Rattle.std.proofs.Common.{◌≡◌, ◌∙◌, sym, ap, refl, inl, inr}
use Rattle.age_io.specs.Stretch.{Stretch, from_place}
use Rattle.age_io.specs.Replies.{replies}
use Rattle.age_stream.specs.Reader.{content_of, place_of, plain_rest_of}
use Rattle.age_protocol.proofs.OpenedFor.{never_fails}
use Rattle.age_protocol.proofs.opening.answers.Goals as goal

pub returns-clause-cursor : goal.returns-clause-cursor
returns-clause-cursor g c = λ told well never file plain carries for.
    let stream = c.in-Ok.stream in
    let stands = c.in-Ok.ensures.plaintext told well file plain carries for in
    let here : plain_rest_of stream ≡ from_place (place_of stream) (content_of stream) =
    stands.rest ∙ sym (ap (λ n. from_place n (content_of stream)) stands.place ∙ ap (λ s. from_place 0 s) stands.content) in
    λ none. c.in-Ok-run.ensures.cursor (c.in-Ok.ensures.tells ∙ told) (ap (λ s. s.ends_well) stands.content) here
    (never_fails (λ s. g.R.Read.faults s.source.inner.source.inner.inner) stream c.run.new.reader (λ t. never t.source.inner.source.inner.inner)) none
    ∙ ap (λ (s : Stretch). replies c.args.ops.now s.bytes (place_of stream)) stands.content ∙ ap (λ n. replies c.args.ops.now plain n) stands.place

pub returns-clause-opened : goal.returns-clause-opened
returns-clause-opened g c =
    let made = c.in-Ok.ensures.opened in
    record {
      text = made.text;
      tells = made.tells;
      steady = made.steady;
      faults = made.faults;
      place = made.place;
      rest = made.rest;
      stands = made.stands;
      named = made.named;
      holds = record { stream = c.in-Ok.stream; opened = made.holds; last = c.run.new.reader; came = c.in-Ok-run.ensures.each };
    }

pub returns-in-Err-clause-io : goal.returns-in-Err-clause-io
returns-in-Err-clause-io g c = λ io. let (want, same) = c.in-Err.ensures.io io in (want, inl same)

pub returns-in-Err-clause-cursor : goal.returns-in-Err-clause-cursor
returns-in-Err-clause-cursor g c = λ told well never file plain carries for. c.in-Err.ensures.plaintext told well file plain carries for never

pub returns-in-Err-run-clause-io : goal.returns-in-Err-run-clause-io
returns-in-Err-run-clause-io g c = λ io.
    let made = c.in-Ok.ensures.opened in (
      refl,
      inr (record {
        text = made.text;
        tells = made.tells;
        steady = made.steady;
        faults = made.faults;
        place = made.place;
        rest = made.rest;
        stands = made.stands;
        named = made.named;
        holds = (c.in-Ok.stream, made.holds);
      }),
    )
