use Rattle.std.proofs.Common.{◌∙◌, Some, Err, ap, arith, map, refl, vec_items}
use Rattle.age.specs.Encrypting.{Prepares}
use Rattle.age.specs.Stretch.{whole}
use Rattle.age_records.specs.Text.{records_text}
use Rattle.age_examples.proofs.RecordsBack.{read-for, refused-back, want-through}
use Rattle.age_examples.proofs.records_there_and_back.record_through_file.Goals as goal

pub returns-in-Err-records_of : goal.returns-in-Err-records_of
returns-in-Err-records_of g c = λ identity alone one apart.
    let records = map vec_items c.args.records.now in
    let (text, well, carries, for) =
    read-for g.S.Suite.seal_of g.T.Recipient.wraps g.I.Identity.unwraps c.several_recipients.ensures.any c.args.recipients.now
    (Some c.args.grease) c.args.draw.now _
    (records_text records) c.in-Ok.file.items c.in-Ok.ensures.made c.args.identities.now identity alone one apart _
    (c.new.ensures.rest ∙ ap whole c.deref.ensures.value) in
    want-through (λ e. Prepares g.T.Recipient.wraps c.args.recipients.now (Some c.args.grease) c.args.draw.now (Err e) c.file_of_records.new.draw)
    records c.args.index
    c.in-Err-records_of.error (c.in-Err-records_of.ensures refl well (λ r. refl) text records carries for)

pub returns-in-Err-get : goal.returns-in-Err-get
returns-in-Err-get g c = λ identity alone one apart.
    let records = map vec_items c.args.records.now in
    let (text, well, carries, for) =
    read-for g.S.Suite.seal_of g.T.Recipient.wraps g.I.Identity.unwraps c.several_recipients.ensures.any c.args.recipients.now
    (Some c.args.grease) c.args.draw.now _
    (records_text records) c.in-Ok.file.items c.in-Ok.ensures.made c.args.identities.now identity alone one apart _
    (c.new.ensures.rest ∙ ap whole c.deref.ensures.value) in
    let these = c.in-Ok-records_of.ensures refl well (λ r. refl) text records carries for in
    refused-back records c.args.index c.in-Err-get.error
    (c.in-Err-get.ensures.written records these.tells these.content (record { same = refl; below = omega arith }))

pub returns : goal.returns
returns g c = λ identity alone one apart.
    let records = map vec_items c.args.records.now in
    let (text, well, carries, for) =
    read-for g.S.Suite.seal_of g.T.Recipient.wraps g.I.Identity.unwraps c.several_recipients.ensures.any c.args.recipients.now
    (Some c.args.grease) c.args.draw.now _
    (records_text records) c.in-Ok.file.items c.in-Ok.ensures.made c.args.identities.now identity alone one apart _
    (c.new.ensures.rest ∙ ap whole c.deref.ensures.value) in
    let these = c.in-Ok-records_of.ensures refl well (λ r. refl) text records carries for in
    c.in-Ok-get.ensures.written records these.tells these.content
