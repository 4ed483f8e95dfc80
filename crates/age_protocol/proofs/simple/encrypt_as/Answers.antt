use Rattle.std.proofs.Common.{Ok, Err, refl, ap, arith}
use Rattle.std.specs.Prelude.{vec_items}
use Rattle.age_error.specs.EncryptErrors.{encrypt_refusal}
use Rattle.age_protocol.proofs.Refusing.{memory-refused}
use Rattle.age_protocol.proofs.WholeFiles.{is-written}
use Rattle.age_protocol.proofs.simple.encrypt_as.Goals as goal

pub returns-in-Ok : goal.returns-in-Ok
returns-in-Ok g c =
    let (file, prepared, done) = c.in-Ok.ensures.file refl refl in (
      Ok file,
      prepared,
      is-written vec_items g.S.Suite.seal_of c.args.format file _ c.args.plaintext.now _ _ c.new-reader.ensures.rest c.new-file.ensures.items
          c.known_bytes.ensures done,
    )

pub returns-in-Err-Encrypt : goal.returns-in-Err-Encrypt
returns-in-Err-Encrypt g c =
    (Err (encrypt_refusal c.in-Err-Encrypt.e), rw c.in-Err-Encrypt.field-0-is at c.in-Err-Encrypt.ensures.why, refl)

pub returns-in-Err-Io : goal.returns-in-Err-Io
returns-in-Err-Io g c =
    let (prepared, refused) = rw c.in-Err-Io.field-0-is at c.in-Err-Io.ensures.io in (
      Ok prepared.0,
      prepared.1,
      record {
        error = c.in-Err-Io.e;
        is = ap (λ e. encrypt_refusal e) c.from.ensures;
        why = memory-refused c.new-file.result _ c.args.plaintext.now c.in-Err-Io.e c.new-reader.ensures.rest
            (refused.why refl refl (record { same = refl; below = omega arith }));
      },
    )
