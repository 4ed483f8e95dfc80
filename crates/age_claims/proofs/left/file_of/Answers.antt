use Rattle.std.proofs.Common.{refl}
use Rattle.age.specs.Armor.{text_of}
use Rattle.age_claims.proofs.AtOnce.{written_of}
use Rattle.age_claims.proofs.left.file_of.Goals as goal

pub returns-in-Ok : goal.returns-in-Ok
returns-in-Ok g c =
    let (file, prepares, appends) = c.in-Ok.ensures.file refl refl in (
      file,
      prepares,
      written_of g.S.Suite.seal_of (λ v. v.items) _ (text_of c.args.format) file _ c.args.plain.now _ c.encrypt_all.new.writer
          c.new-input.ensures.rest c.known_bytes.ensures (λ bytes out. rw c.new-text.ensures.items at out) appends,
    )
