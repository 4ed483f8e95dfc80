use Rattle.std.proofs.Common.{rules, refl, arith, ◌∙◌}
use Rattle.std.proofs.lemmas.Slice.{overwrites}
use Rattle.scrypt.specs.Pbkdf2.{pbkdf2}
use Rattle.scrypt.proofs.Steps.{pbkdf2_more}
use Rattle.scrypt.proofs.pbkdf2_sha256.pbkdf2.Goals as goal

pub places-init : goal.places-init
unfolding pbkdf2
places-init c = (refl, refl)

pub places-preserved : goal.places-preserved
places-preserved c = (
  search (rules, overwrites),
  pbkdf2_more c.args.password.now c.args.salt.now c.places.key _ c.places.i _ c.places.invariant.1 (omega arith)
      (c.copy_from_slice.ensures.after ∙ c.pbkdf2_block.ensures),
)
