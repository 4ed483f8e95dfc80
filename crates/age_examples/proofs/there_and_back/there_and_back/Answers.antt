use Rattle.std.proofs.Common.{rules, ◌≡◌, ◌∙◌, refl, sym, ap, subst, arith, inl, Ok, Err, List, ℕ}
use Rattle.age.below.age_format.specs.contracts.identity.BoxDynIdentityIdentity.TheImpl as boxed
use Rattle.age.specs.Bytes.{AreBytes}
use Rattle.age.specs.ErrorLemmas.{of_error}
use Rattle.age.specs.Stretch.{whole, stretch-ext}
use Rattle.age.specs.Decryptor.{header_of}
use Rattle.age.specs.File.{file_text, IsFileOf}
use Rattle.age.proofs.Opened.{decided_key}
use Rattle.age.proofs.OpenedFor.{asked, not_asked, stands_or_want}
use Rattle.age.proofs.Parts.{memory_only}
use Rattle.age_examples.proofs.Back.{want-handed, unwritten, unfinished, file-for-them}
use Rattle.age_examples.proofs.Opened.{same_front}
use Rattle.age_examples.proofs.there_and_back.there_and_back.Goals as goal

pub returns-clause-plaintext : goal.returns-clause-plaintext
returns-clause-plaintext g c = λ fits.
    let seal_of = g.S.Suite.seal_of in
    let prepared = c.in_ok-encryptor.encryptor in
    let plain = c.args.plain.now in
    let text = file_text seal_of prepared.file_key prepared.stanzas prepared.nonce plain in
    let started = c.in_ok-writer.ensures in
    let taken = c.in_ok-write_all.ensures.writes.takes_all refl in
    let is : c.in_ok-file.file.items ≡ text =
    rw c.new.ensures.items at (started.file refl plain c.write_all.new.writer (Ok c.in_ok-file.file) taken (c.in_ok-file.ensures.ok refl)) in
    let written : IsFileOf seal_of prepared.file_key prepared.stanzas plain text = started.is_file plain in
    let (answer, first, decrypts) = c.in_ok-reader.ensures in
    let (key, is_key, opens) = decided_key answer _ _ _ _ decrypts in
    let h = header_of c.in_ok-decryptor.decryptor in
    let read = c.in_ok-read_to_end.ensures in
    let back = c.read_to_end.new.buf.items in
    let all = stretch-ext _ (whole back) (sym (rw c.new-back.ensures.items at (read.bytes refl))) (read.end refl) in
    let front = same_front _ (whole c.in_ok-file.file.items) _ _ 0 _ _ _ (c.new-2.ensures.rest ∙ ap whole c.deref.ensures.value) c.new-2.ensures.place
    (c.in_ok-decryptor.ensures.front refl) in
    let given = opens.file refl (whole c.in_ok-file.file.items) 0 back front all in
    let opened : IsFileOf seal_of key h.stanzas back text = subst (λ bytes. IsFileOf seal_of key h.stanzas back bytes) is given.1 in
    let same_stanzas = c.one_plaintext.ensures.header prepared.file_key key prepared.stanzas h.stanzas plain back text written opened in
    let asked = rw (← same_stanzas) at first in
    let same_key : key ≡ prepared.file_key =
    fits prepared key _ c.in_ok-encryptor.ensures (rw is_key at asked) in
    let plain_bytes : AreBytes plain = search rules in
    let back_bytes : AreBytes back = search rules in
    c.one_plaintext.ensures.plaintext prepared.file_key h.stanzas prepared.stanzas back plain text back_bytes plain_bytes
    (subst (λ (k : List ℕ). IsFileOf seal_of k h.stanzas back text) same_key opened) written

pub returns-in_err-encryptor-clause-refused : goal.returns-in_err-encryptor-clause-refused
returns-in_err-encryptor-clause-refused g c = λ always apart.
    of_error _ _ _ c.from_residual.ensures.1 c.in_err-encryptor.ensures

pub returns-in_err-writer-clause-refused : goal.returns-in_err-writer-clause-refused
returns-in_err-writer-clause-refused g c = λ always apart.
    of_error _ _ _ c.from_residual-in_err-writer.ensures.1 (inl (want-handed _ c.in_err-writer.ensures.refused.1.why))

pub returns-in_err-write_all-clause-refused : goal.returns-in_err-write_all-clause-refused
returns-in_err-write_all-clause-refused g c = λ always apart.
    of_error _ _ _ c.from_residual-in_err-write_all.ensures.1
    (unwritten _ _ _ c.in_ok-writer.ensures.starts.made _ _ c.in_err-write_all.ensures.writes.why)

pub returns-in_err-file-clause-refused : goal.returns-in_err-file-clause-refused
returns-in_err-file-clause-refused g c = λ always apart.
    of_error _ _ _ c.from_residual-in_err-file.ensures.1
    (unfinished _ _ _ c.in_ok-writer.ensures.starts.made _ c.write_all.new.writer c.in_ok-write_all.ensures.writes.narrows _
    c.in_err-file.ensures.why)

pub returns-in_err-decryptor-clause-refused : goal.returns-in_err-decryptor-clause-refused
returns-in_err-decryptor-clause-refused g c = λ always apart.
    let seal_of = g.S.Suite.seal_of in
    let prepared = c.in_ok-encryptor.encryptor in
    let plain = c.args.plain.now in
    let text = file_text seal_of prepared.file_key prepared.stanzas prepared.nonce plain in
    let started = c.in_ok-writer.ensures in
    let taken = c.in_ok-write_all.ensures.writes.takes_all refl in
    let is : c.in_ok-file.file.items ≡ text =
    rw c.new.ensures.items at (started.file refl plain c.write_all.new.writer (Ok c.in_ok-file.file) taken (c.in_ok-file.ensures.ok refl)) in
    let rest = c.new-2.ensures.rest ∙ ap whole (c.deref.ensures.value ∙ is) in
    let unwraps = (boxed.ghosts g.dyn-2).unwraps in
    let for = file-for-them _ unwraps seal_of _ _ c.args.identities.now c.args.draw.now _ always prepared plain _ apart c.in_ok-encryptor.ensures
    (started.is_file plain) c.known_bytes.ensures (c.in_ok-file.ensures.within _ _ _ _ started.starts.made taken) (sym (ap (λ s. s.bytes) rest)) in
    of_error _ _ _ c.from_residual-in_err-decryptor.ensures.1
    (stands_or_want g.S.Suite _ unwraps c.front_is_accepted.ensures c.file_opens.ensures.payload c.file_opens.ensures.content
    c.args.identities.now c.args.identities.now _ refl refl plain for (Err c.in_err-decryptor.field-0.0) tt
    (inl (refl, c.in_err-decryptor.ensures.refused)) (λ t. refl))

pub returns-in_err-reader-clause-refused : goal.returns-in_err-reader-clause-refused
returns-in_err-reader-clause-refused g c = λ always apart.
    let seal_of = g.S.Suite.seal_of in
    let prepared = c.in_ok-encryptor.encryptor in
    let plain = c.args.plain.now in
    let text = file_text seal_of prepared.file_key prepared.stanzas prepared.nonce plain in
    let started = c.in_ok-writer.ensures in
    let taken = c.in_ok-write_all.ensures.writes.takes_all refl in
    let is : c.in_ok-file.file.items ≡ text =
    rw c.new.ensures.items at (started.file refl plain c.write_all.new.writer (Ok c.in_ok-file.file) taken (c.in_ok-file.ensures.ok refl)) in
    let rest = c.new-2.ensures.rest ∙ ap whole (c.deref.ensures.value ∙ is) in
    let unwraps = (boxed.ghosts g.dyn-2).unwraps in
    let for = file-for-them _ unwraps seal_of _ _ c.args.identities.now c.args.draw.now _ always prepared plain _ apart c.in_ok-encryptor.ensures
    (started.is_file plain) c.known_bytes.ensures (c.in_ok-file.ensures.within _ _ _ _ started.starts.made taken) (sym (ap (λ s. s.bytes) rest)) in
    let front = c.in_ok-decryptor.ensures in
    let (answer, first, decrypts) = c.in_err-reader.ensures in
    of_error _ _ _ c.from_residual-in_err-reader.ensures.1
    (stands_or_want g.S.Suite _ unwraps c.front_is_accepted.ensures c.file_opens.ensures.payload c.file_opens.ensures.content
    c.args.identities.now c.decrypt.new.identities _ refl refl plain for (Err c.in_err-reader.field-0.0) tt
    (not_asked unwraps _ _ _ _ _ _ answer (Err c.in_err-reader.field-0.0)
    (record { same = front.keeps; narrows = front.narrows; front = front.front; first = first }) decrypts) (λ t. refl))

pub returns-in_err-read_to_end-clause-refused : goal.returns-in_err-read_to_end-clause-refused
returns-in_err-read_to_end-clause-refused g c = λ always apart.
    let seal_of = g.S.Suite.seal_of in
    let prepared = c.in_ok-encryptor.encryptor in
    let plain = c.args.plain.now in
    let text = file_text seal_of prepared.file_key prepared.stanzas prepared.nonce plain in
    let started = c.in_ok-writer.ensures in
    let taken = c.in_ok-write_all.ensures.writes.takes_all refl in
    let is : c.in_ok-file.file.items ≡ text =
    rw c.new.ensures.items at (started.file refl plain c.write_all.new.writer (Ok c.in_ok-file.file) taken (c.in_ok-file.ensures.ok refl)) in
    let rest = c.new-2.ensures.rest ∙ ap whole (c.deref.ensures.value ∙ is) in
    let unwraps = (boxed.ghosts g.dyn-2).unwraps in
    let for = file-for-them _ unwraps seal_of _ _ c.args.identities.now c.args.draw.now _ always prepared plain _ apart c.in_ok-encryptor.ensures
    (started.is_file plain) c.known_bytes.ensures (c.in_ok-file.ensures.within _ _ _ _ started.starts.made taken) (sym (ap (λ s. s.bytes) rest)) in
    let front = c.in_ok-decryptor.ensures in
    let (answer, first, decrypts) = c.in_ok-reader.ensures in
    let stands = stands_or_want g.S.Suite _ unwraps c.front_is_accepted.ensures c.file_opens.ensures.payload c.file_opens.ensures.content
    c.args.identities.now c.decrypt.new.identities _ refl refl plain for (Ok c.in_ok-reader.reader)
    (asked unwraps _ _ _ _ _ _ answer (Ok c.in_ok-reader.reader)
    (record { same = front.keeps; narrows = front.narrows; front = front.front; first = first }) decrypts) tt in
    of_error _ _ _ c.from_residual-in_err-read_to_end.ensures.1
    (inl (memory_only _ _ _ (ap (λ s. s.ends_well) stands.rest) (c.in_err-read_to_end.ensures.cause refl)
    (record { same = refl; below = omega arith })))
