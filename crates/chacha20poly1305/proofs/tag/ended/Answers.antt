use Rattle.chacha20poly1305.specs.Aead.{mac_data}
use Rattle.chacha20poly1305.proofs.tag.ended.Goals as goal

pub returns : goal.returns
unfolding mac_data
returns c = λ key given.
    rw (c.as_slice.ensures, c.lengths.ensures) at c.update.ensures key _ (c.give_padding.ensures key _ given)
