use Rattle.std.proofs.Common.{[], ◌∷◌, ap}
use Rattle.age.specs.X25519Laws.{has_other_tag}
use Rattle.age_examples.proofs.Alone.{belongs_alone}
use Rattle.age_examples.proofs.keys.kept_for_oneself.Goals as goal

pub returns : goal.returns
returns g c =
    let one = belongs_alone _ _ has_other_tag _ _ _ (ap (λ r. r ∷ []) c.to_public.ensures) c.x25519_pair.ensures.beside_others in
    record {
      plaintext = rw c.to_public.ensures at (c.opened_by_one.ensures.plaintext one);
      refused = rw c.to_public.ensures at (c.opened_by_one.ensures.refused one);
    }
