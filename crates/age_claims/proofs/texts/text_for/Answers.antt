use Rattle.std.proofs.Common.{Some, Err, length, sym, ap, subst, refl, arith}
use Rattle.age.specs.Bytes.{AreBytes}
use Rattle.age.specs.Encrypting.{Prepares}
use Rattle.age.specs.FileLaws.{PreparesApart}
use Rattle.age_claims.proofs.Given.{carries_for}
use Rattle.age_claims.proofs.Outcomes.{refused_back}
use Rattle.age_claims.proofs.texts.text_for.Goals as goal

pub returns-in-Err-clause-refused : goal.returns-in-Err-clause-refused
returns-in-Err-clause-refused g c =
    refused_back _ _ c.new-file.result _ (length c.args.plain.now)
    (λ refusal. Prepares g.T.Recipient.wraps c.args.recipients.now (Some c.args.grease) c.args.draw.now (Err refusal) c.encrypt_all.new.draw)
    c.in-Err.error (ap (λ s. length s.bytes) c.new-input.ensures.rest)
    c.in-Err.ensures.why c.in-Err.ensures.io (λ e refused. refused.why refl refl (record { same = refl; below = omega arith }))

pub returns-in-Ok-clause-text : goal.returns-in-Ok-clause-text
returns-in-Ok-clause-text g c = λ one belongs apart.
    let (file, prepares, appends) = c.in-Ok.ensures.file refl refl in
    let plain_is = ap (λ s. s.bytes) c.new-input.ensures.rest in
    let bytes = subst AreBytes (sym plain_is) c.known_bytes.ensures in
    let for = c.several_recipients.ensures.any c.args.recipients.now one (Some c.args.grease) c.args.draw.now _ file _ _ belongs prepares
    appends.is_file bytes appends.within (subst
    (λ p. PreparesApart g.T.Recipient.wraps c.args.recipients.now (Some c.args.grease) c.args.draw.now c.encrypt_all.new.draw g.S.Suite.seal_of p)
    (sym plain_is) apart file prepares appends.is_file) in
    carries_for _ _ _ _ _ _ _ plain_is (rw c.new-file.ensures.items at appends.out) (appends.carries bytes) for
