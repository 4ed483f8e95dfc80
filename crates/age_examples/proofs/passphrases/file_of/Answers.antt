use Rattle.std.proofs.Common.{◌≡◌, refl, subst, sym, inl, Ok}
use Rattle.age.specs.Bytes.{AreBytes}
use Rattle.age.specs.ErrorLemmas.{of_error}
use Rattle.age.specs.File.{file_text}
use Rattle.age_examples.proofs.Back.{want-handed, unwritten, unfinished}
use Rattle.age_examples.specs.Keys.{IsWhole}
use Rattle.age_examples.proofs.passphrases.file_of.Goals as goal

pub returns-clause-made : goal.returns-clause-made
returns-clause-made g c =
    let seal_of = g.S.Suite.seal_of in
    let prepared = c.args.encryptor in
    let plain = c.args.plain.now in
    let text = file_text seal_of prepared.file_key prepared.stanzas prepared.nonce plain in
    let started = c.in_ok-writer.ensures in
    let taken = c.in_ok-write_all.ensures.writes.takes_all refl in
    let bytes : AreBytes plain = c.known_bytes.ensures in
    let is : c.in_ok-file.file.items ≡ text =
    rw c.new.ensures.items at (started.file refl plain c.write_all.new.writer (Ok c.in_ok-file.file) taken (c.in_ok-file.ensures.ok refl)) in
    subst (λ file. IsWhole seal_of prepared plain file) (sym is) (record {
      bytes = bytes;
      within = c.in_ok-file.ensures.within _ _ _ _ started.starts.made taken;
      text = refl;
      is_file = started.is_file plain;
      carries = c.files_carry_themselves.ensures _ _ _ text (started.bytes plain bytes) (started.is_file plain);
    })

pub returns-in_err-writer-clause-refused : goal.returns-in_err-writer-clause-refused
returns-in_err-writer-clause-refused g c =
    of_error _ _ _ c.from_residual.ensures.1 (inl (want-handed _ c.in_err-writer.ensures.refused.1.why))

pub returns-in_err-write_all-clause-refused : goal.returns-in_err-write_all-clause-refused
returns-in_err-write_all-clause-refused g c =
    of_error _ _ _ c.from_residual-in_err-write_all.ensures.1
    (unwritten _ _ _ c.in_ok-writer.ensures.starts.made _ _ c.in_err-write_all.ensures.writes.why)

pub returns-in_err-file-clause-refused : goal.returns-in_err-file-clause-refused
returns-in_err-file-clause-refused g c =
    of_error _ _ _ c.from_residual-in_err-file.ensures.1
    (unfinished _ _ _ c.in_ok-writer.ensures.starts.made _ c.write_all.new.writer c.in_ok-write_all.ensures.writes.narrows _
    c.in_err-file.ensures.why)
