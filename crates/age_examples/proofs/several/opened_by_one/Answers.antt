use Rattle.std.proofs.Common.{◌≡◌, ◌∙◌, ℕ, List, length, Some, sym, ap, subst, refl, arith}
use Rattle.age.specs.Bytes.{AreBytes}
use Rattle.age.specs.Armor.{Carries}
use Rattle.age.specs.FileLaws.{PreparesApart}
use Rattle.age_examples.specs.Keys.{Unprepared}
use Rattle.age_examples.proofs.Back.{unencrypted, unlisted}
use Rattle.age_examples.proofs.several.opened_by_one.Goals as goal

carries_as : (read written carried : List ℕ) → read ≡ written → Carries written carried → Carries read carried
carries_as read written carried is carries = subst (λ l. Carries l carried) (sym is) carries

pub returns-clause-plaintext : goal.returns-clause-plaintext
returns-clause-plaintext g c = λ one apart.
    let (file, prepares, appends) = c.in-Ok.ensures.file refl refl in
    let plain_is = ap (λ s. s.bytes) c.new-reader.ensures.rest in
    let bytes = subst AreBytes (sym plain_is) c.known_bytes.ensures in
    let written = rw c.new-file.ensures.items at appends.out in
    let for = c.several_recipients.ensures.any c.args.recipients.now c.args.identity.now (Some c.args.grease) c.args.draw.now _ file _ _ one prepares
    appends.is_file bytes appends.within (subst
    (λ p. PreparesApart g.T.Recipient.wraps c.args.recipients.now (Some c.args.grease) c.args.draw.now c.encrypt_all.new.draw g.S.Suite.seal_of p)
    (sym plain_is) apart file prepares appends.is_file) in
    c.in-Ok-decrypt.ensures.honest _ _ (carries_as _ _ _ (c.deref.ensures.value ∙ written) (appends.carries bytes)) for ∙ plain_is

pub returns-in-Err-decrypt-clause-refused : goal.returns-in-Err-decrypt-clause-refused
returns-in-Err-decrypt-clause-refused g c = λ one apart.
    let (file, prepares, appends) = c.in-Ok.ensures.file refl refl in
    let plain_is = ap (λ s. s.bytes) c.new-reader.ensures.rest in
    let bytes = subst AreBytes (sym plain_is) c.known_bytes.ensures in
    let written = rw c.new-file.ensures.items at appends.out in
    let for = c.several_recipients.ensures.any c.args.recipients.now c.args.identity.now (Some c.args.grease) c.args.draw.now _ file _ _ one prepares
    appends.is_file bytes appends.within (subst
    (λ p. PreparesApart g.T.Recipient.wraps c.args.recipients.now (Some c.args.grease) c.args.draw.now c.encrypt_all.new.draw g.S.Suite.seal_of p)
    (sym plain_is) apart file prepares appends.is_file) in
    c.in-Err-decrypt.ensures.honest _ _ (carries_as _ _ _ (c.deref.ensures.value ∙ written) (appends.carries bytes)) for

pub returns-in-Err-clause-refused : goal.returns-in-Err-clause-refused
returns-in-Err-clause-refused g c = λ one apart.
    let input = c.new-reader.ensures.rest in
    unencrypted (Unprepared g.T.Recipient.wraps c.args.recipients.now c.args.grease c.args.draw.now c.encrypt_all.new.draw) _ _ _ c.in-Err.error
    c.in-Err.ensures.why c.in-Err.ensures.io
    (λ e refused. unlisted c.new-file.result _ c.args.plain.now e (ap (λ s. length s.bytes) input)
    (refused.why refl (ap (λ s. s.ends_well) input) (record { same = refl; below = omega arith })))
