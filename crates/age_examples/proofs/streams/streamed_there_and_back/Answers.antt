use Rattle.std.proofs.Common.{◌≡◌, ◌∙◌, ap, subst, refl, sym, List, ℕ}
use Rattle.std.proofs.lemmas.Result.{on_ok_weaker}
use Rattle.age.specs.Bytes.{AreBytes}
use Rattle.age.specs.ErrorLemmas.{of_error}
use Rattle.age.specs.Stretch.{whole}
use Rattle.age.specs.Armor.{Carries, text_of}
use Rattle.age.specs.File.{file_text, IsFileOf}
use Rattle.age.specs.StreamReadingLemmas.{and-left, and-right}
use Rattle.age.proofs.StreamAnswered.{rest-bytes}
use Rattle.age_examples.specs.Keys.{Unprepared}
use Rattle.age_examples.proofs.Back.{file-for-them, handed-to, undecrypted, unencrypted}
use Rattle.age_examples.proofs.streams.streamed_there_and_back.Goals as goal

pub returns-clause-plaintext : goal.returns-clause-plaintext
returns-clause-plaintext g c = λ fits reader_told writer_told.
    let seal_of = g.S.Suite.seal_of in
    let reader = c.args.reader.now in
    let plain = (g.R.Read.rest reader).bytes in
    let tells = and-left _ _ reader_told in
    let plain_bytes : AreBytes plain = rest-bytes (g.R.Read.content reader) (g.R.Read.rest reader) (g.R.Read.place reader)
    (g.met.R.Read.stands reader tells (and-right _ _ reader_told)) (g.met.R.Read.are_bytes reader tells) in
    let (prepared, prepares, made) = c.in_ok-encrypt_all.ensures.file tells refl in
    let text = file_text seal_of prepared.file_key prepared.stanzas prepared.nonce plain in
    let written : c.encrypt_all.new.writer.items ≡ text_of c.args.format text = rw c.new-file.ensures.items at made.out in
    let input = c.new.ensures.rest ∙ ap whole (c.deref.ensures.value ∙ written) in
    on_ok_weaker c.decrypt_all.result
    (λ done.
    let file = done.file in
    let key = file.file_key in
    let stanzas = file.stanzas in
    let back = done.plain in
    let carried : Carries (text_of c.args.format text) file.carried = rw (ap (λ s. s.bytes) input) at file.carries in
    let same : file.carried ≡ text = c.carried_is_unique.ensures (text_of c.args.format text) file.carried text carried (made.carries plain_bytes) in
    let opened : IsFileOf seal_of key stanzas back text = subst (λ (l : List ℕ). IsFileOf seal_of key stanzas back l) same file.is_file in
    let same_stanzas = c.one_plaintext.ensures.header prepared.file_key key prepared.stanzas stanzas plain back text made.is_file opened in
    let same_key : key ≡ prepared.file_key = fits prepared key _ prepares (rw (← same_stanzas) at file.given) in
    let is : back ≡ plain = c.one_plaintext.ensures.plaintext prepared.file_key stanzas prepared.stanzas back plain text file.bytes plain_bytes
    (subst (λ (k : List ℕ). IsFileOf seal_of k stanzas back text) same_key opened) made.is_file in
    subst (λ (l : List ℕ). g.W.Write.appended c.args.writer.now l c.decrypt_all.new.writer) is done.out)
    (c.decrypt_all.ensures.file refl writer_told)

pub returns-in_err-encrypt_all-clause-refused : goal.returns-in_err-encrypt_all-clause-refused
returns-in_err-encrypt_all-clause-refused g c = λ always apart told well quiet.
    of_error _ _ _ c.from_residual.ensures.1
    (unencrypted (Unprepared g.T.Recipient.wraps c.args.recipients.now c.args.grease c.args.draw.now c.encrypt_all.new.draw) _ _ _
    c.in_err-encrypt_all.field-0.0 c.in_err-encrypt_all.ensures.why c.in_err-encrypt_all.ensures.io
    (λ e refused. handed-to c.new-file.result g.W.Write.refuses c.args.writer.now _ e (refused.why (and-left _ _ told) well quiet)))

pub returns-clause-refused : goal.returns-clause-refused
returns-clause-refused g c = λ always apart told well quiet.
    let seal_of = g.S.Suite.seal_of in
    let reader = c.args.reader.now in
    let plain = (g.R.Read.rest reader).bytes in
    let tells = and-left _ _ told in
    let plain_bytes : AreBytes plain = rest-bytes (g.R.Read.content reader) (g.R.Read.rest reader) (g.R.Read.place reader)
    (g.met.R.Read.stands reader tells (and-right _ _ told)) (g.met.R.Read.are_bytes reader tells) in
    let (prepared, prepares, made) = c.in_ok-encrypt_all.ensures.file tells refl in
    let text = file_text seal_of prepared.file_key prepared.stanzas prepared.nonce plain in
    let written : c.encrypt_all.new.writer.items ≡ text_of c.args.format text = rw c.new-file.ensures.items at made.out in
    let input = c.new.ensures.rest ∙ ap whole (c.deref.ensures.value ∙ written) in
    let carries = subst (λ l. Carries l text) (sym (ap (λ s. s.bytes) input)) (made.carries plain_bytes) in
    let for = file-for-them g.T.Recipient.wraps g.I.Identity.unwraps seal_of _ _ c.args.identities.now c.args.draw.now _ always prepared
    plain text apart prepares made.is_file plain_bytes
    made.within refl in
    undecrypted (Unprepared g.T.Recipient.wraps c.args.recipients.now c.args.grease c.args.draw.now c.encrypt_all.new.draw) g.W.Write.refuses
    c.args.writer.now _ c.decrypt_all.result
    (c.decrypt_all.ensures.honest refl (ap (λ s. s.ends_well) input) (λ r. refl) text plain carries for)
    (c.decrypt_all.ensures.written refl (ap (λ s. s.ends_well) input) (λ r. refl) text plain carries for)
