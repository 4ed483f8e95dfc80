use Rattle.std.proofs.Common.{rules}
use Rattle.age_error.specs.Bytes.{AreBytes}
use Rattle.age_v1.specs.Armor.{armor, Carries, text_of}
use Rattle.age_v1.specs.declared.format.Format.{Format}
use Rattle.age_v1.specs.declared.format.Format.TheVariants.{Binary, AsciiArmor}
use Rattle.age_v1.specs.File.{file_text}
use Rattle.std.proofs.Common.{List, ℕ}
use Rattle.age_protocol.proofs.whole.encrypt_all.Goals as goal

-- either form of the text carries it
carried_by : (format : Format) (text : List ℕ) → AreBytes text → (AreBytes text → Carries text text) → (AreBytes text → Carries (armor text) text)
    → Carries (text_of format text) text
carried_by Binary text bytes itself armored = itself bytes
carried_by AsciiArmor text bytes itself armored = armored bytes

pub returns-in-Ok-clause-file : goal.returns-in-Ok-clause-file
returns-in-Ok-clause-file g c = λ reader_told writer_told.
    let written = c.write_file-written.ensures in
    let file = c.in_ok-encryptor.encryptor in
    let plain = (g.R.Read.rest c.args.reader.now).bytes in
    let text = file_text g.S.Suite.seal_of file.file_key file.stanzas file.nonce plain in
    let (ends, within, out) = (rw c.in-Ok.is at written.made.all) reader_told writer_told in (
      file,
      c.in_ok-encryptor.ensures,
      record {
        ended = ends;
        within = within;
        is_file = (rw c.in-Ok.is at written.is_file) plain;
        carries = λ bytes. carried_by c.args.format text ((rw c.in-Ok.is at written.bytes) plain bytes)
            (λ are. c.files_carry_themselves.ensures _ _ _ text are ((rw c.in-Ok.is at written.is_file) plain))
            (λ are. c.armor_is_carrying.ensures.itself text are);
        out = search rules;
      },
    )

pub returns-in-Err-clause-io : goal.returns-in-Err-clause-io
returns-in-Err-clause-io g c =
    let made = c.write_file-written.ensures.made in
    let refused = rw c.in-Err.is at made.refused in (
      (c.in_ok-encryptor.encryptor, c.in_ok-encryptor.ensures),
      record {
        named = refused.named;
        why = refused.why;
        device = λ reader_told writer_told is.
            let out = (made.front reader_told writer_told).out in
            let device = refused.device reader_told writer_told is in
            search rules;
      },
    )
