use Rattle.std.proofs.Common.{Ok, arith, refl, vec_items}
use Rattle.age_files.proofs.Encrypted.{file_written, prepares_of, why_no_file}
use Rattle.age_files.proofs.encrypting.file_to_keys.Goals as goal

pub returns-in-Ok-encrypt_to_keys : goal.returns-in-Ok-encrypt_to_keys
returns-in-Ok-encrypt_to_keys g c =
    let (file, prepared, done) = c.in-Ok-encrypt_to_keys.ensures.file refl refl in (
      file,
      prepares_of _ _ _ c.in-Ok.source c.args.given.now _ c.in-Ok.ensures (Ok file) prepared,
      file_written vec_items g.S.Suite.seal_of c.args.format file _ c.args.plain.now _ _ c.new-reader.ensures.rest c.new-file.ensures.items
          c.known_bytes.ensures done,
    )

pub returns : goal.returns
returns g c =
    why_no_file _ _ _ c.in-Ok.source c.args.given.now _ c.in-Ok.ensures _ _ _ _ _ _ _ _ c.args.plain.now refl c.new-reader.ensures.rest
    (record { same = refl; below = omega arith }) (λ n d is. is) c.in-Err-encrypt_to_keys.error c.in-Err-encrypt_to_keys.ensures
