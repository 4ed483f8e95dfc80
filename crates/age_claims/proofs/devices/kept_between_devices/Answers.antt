use Rattle.std.proofs.Common.{◌∙◌, Some, Err, length, ap, refl}
use Rattle.age.specs.Encrypting.{Prepares}
use Rattle.age.specs.Identities.{GivesFirst}
use Rattle.age.specs.StreamReadingLemmas.{and-left}
use Rattle.age.proofs.PartCopied.{none-copied}
use Rattle.age_claims.proofs.Given.{carries_as, given_is}
use Rattle.age_claims.proofs.Outcomes.{by_both}
use Rattle.age_claims.proofs.BothDevices.{all_of, refused_after, refused_before}
use Rattle.age_claims.proofs.devices.kept_between_devices.Goals as goal

pub returns-in-Err-clause-front : goal.returns-in-Err-clause-front
returns-in-Err-clause-front g c = λ told writer_told one only belongs apart.
    none-copied g.W.Write.appended (g.R.Read.rest c.args.reader.now).bytes c.args.writer.now (g.met.W.Write.appends_nothing c.args.writer.now)

pub returns-in-Err-clause-why : goal.returns-in-Err-clause-why
returns-in-Err-clause-why g c = λ told well quiet one only belongs apart.
    refused_before
    (λ refusal. Prepares g.T.Recipient.wraps c.args.recipients.now (Some c.args.grease) c.args.draw.now (Err refusal) c.text_from.new.draw)
    g.W.Write.refuses c.args.writer.now (length (g.R.Read.rest c.args.reader.now).bytes) c.in-Err.error
    (c.in-Err.ensures.refused (and-left _ _ told) well quiet)

pub returns-clause-all : goal.returns-clause-all
returns-clause-all g c = λ told writer_told one only belongs apart.
    let wrote = c.in-Ok.ensures.text told one belongs apart in
    let carries = carries_as _ _ _ (ap (λ s. s.bytes) c.new-text.ensures.rest ∙ c.deref.ensures.value) wrote.carries in
    all_of g.S.Suite.seal_of (GivesFirst g.I.Identity.unwraps c.args.identities.now c.decrypt_all.new.identities) g.W.Write.appended _ _
    (g.R.Read.rest c.args.reader.now).bytes c.args.writer.now c.decrypt_all.new.writer c.decrypt_all.result
    (c.in-Ok.ensures.ended (and-left _ _ told))
    (λ got. given_is g.S.Suite.seal_of c.carried_is_unique.ensures c.one_plaintext.ensures.header c.one_plaintext.ensures.plaintext
    g.I.Identity.unwraps c.args.identities.now _ _ _ _ got.plain (rw (← only) at wrote.is_for) carries got.file)
    (c.decrypt_all.ensures.file refl writer_told)

pub returns-clause-front : goal.returns-clause-front
returns-clause-front g c = λ told writer_told one only belongs apart.
    let wrote = c.in-Ok.ensures.text told one belongs apart in
    let input = c.new-text.ensures.rest in
    let carries = carries_as _ _ _ (ap (λ s. s.bytes) input ∙ c.deref.ensures.value) wrote.carries in
    c.decrypt_all.ensures.plaintext refl (ap (λ s. s.ends_well) input) writer_told _ _ carries (rw (← only) at wrote.is_for)

pub returns-clause-why : goal.returns-clause-why
returns-clause-why g c = λ told well quiet one only belongs apart.
    let wrote = c.in-Ok.ensures.text told one belongs apart in
    let input = c.new-text.ensures.rest in
    let carries = carries_as _ _ _ (ap (λ s. s.bytes) input ∙ c.deref.ensures.value) wrote.carries in
    let for = rw (← only) at wrote.is_for in
    by_both _ _ _ c.decrypt_all.result
    (c.decrypt_all.ensures.honest refl (ap (λ s. s.ends_well) input) (λ r. refl) _ _ carries for)
    (c.decrypt_all.ensures.written refl (ap (λ s. s.ends_well) input) (λ r. refl) _ _ carries for)
    (λ e. refused_after
    (λ refusal. Prepares g.T.Recipient.wraps c.args.recipients.now (Some c.args.grease) c.args.draw.now (Err refusal) c.text_from.new.draw)
    g.W.Write.refuses c.args.writer.now (length (g.R.Read.rest c.args.reader.now).bytes) e)
