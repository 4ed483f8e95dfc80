use Rattle.std.proofs.Common.{Some, Err, length, refl}
use Rattle.age.specs.Encrypting.{Prepares}
use Rattle.age.specs.StreamReadingLemmas.{and-left, and-right}
use Rattle.age.proofs.StreamAnswered.{rest-bytes}
use Rattle.age_claims.proofs.Given.{carries_for}
use Rattle.age_claims.proofs.Outcomes.{refused_back}
use Rattle.age_claims.proofs.devices.text_from.Goals as goal

pub returns-in-Err-clause-refused : goal.returns-in-Err-clause-refused
returns-in-Err-clause-refused g c = λ told well quiet.
    let size = length (g.R.Read.rest c.args.reader.now).bytes in
    refused_back _ _ c.new-text.result size size
    (λ refusal. Prepares g.T.Recipient.wraps c.args.recipients.now (Some c.args.grease) c.args.draw.now (Err refusal) c.encrypt_all.new.draw)
    c.in-Err.error refl
    c.in-Err.ensures.why c.in-Err.ensures.io (λ e refused. refused.why told well quiet)

pub returns-in-Ok-clause-text : goal.returns-in-Ok-clause-text
returns-in-Ok-clause-text g c = λ told one belongs apart.
    let reader = c.args.reader.now in
    let tells = and-left _ _ told in
    let (file, prepares, appends) = c.in-Ok.ensures.file tells refl in
    let bytes = rest-bytes (g.R.Read.content reader) (g.R.Read.rest reader) (g.R.Read.place reader)
    (g.met.R.Read.stands reader tells (and-right _ _ told)) (g.met.R.Read.are_bytes reader tells) in
    let for = c.several_recipients.ensures.any c.args.recipients.now one (Some c.args.grease) c.args.draw.now _ file _ _ belongs prepares
    appends.is_file bytes appends.within (apart file prepares appends.is_file) in
    carries_for _ _ _ _ _ _ _ refl (rw c.new-text.ensures.items at appends.out) (appends.carries bytes) for
