use Rattle.std.proofs.Common.{◌∙◌}
use Rattle.age_records.specs.Text.{records_text}
use Rattle.age_examples.proofs.record_files.records_of.Goals as goal

pub returns-in-Err : goal.returns-in-Err
returns-in-Err g c = λ told well never file records carries for. c.in-Err.ensures.plaintext told well file (records_text records) carries for never

pub returns-in-Err-open : goal.returns-in-Err-open
returns-in-Err-open g c = λ told well never file records carries for.
    let stands = c.in-Ok.ensures.plaintext told well file (records_text records) carries for in
    c.in-Err-open.ensures.written records (c.in-Ok.ensures.tells ∙ told) stands.content (λ s. never s.source.inner.inner)

pub returns-in-Ok-open : goal.returns-in-Ok-open
returns-in-Ok-open g c = λ told well never file records carries for.
    let stands = c.in-Ok.ensures.plaintext told well file (records_text records) carries for in
    let tells = c.in-Ok.ensures.tells ∙ told in
    let same = c.in-Ok-open.ensures.same in
    record {
      tells = same.tells ∙ tells;
      content = same.content tells ∙ stands.content;
      count = c.in-Ok-open.ensures.written records tells stands.content;
    }
