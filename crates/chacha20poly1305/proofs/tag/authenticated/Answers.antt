use Rattle.std.proofs.Common.{List, ℕ, [], subst}
use Rattle.poly1305.specs.Given.{WasGiven}
use Rattle.chacha20poly1305.specs.Aead.{mac_data}
use Rattle.chacha20poly1305.proofs.tag.authenticated.Goals as goal

pub returns : goal.returns
returns c =
    let key = c.one_time_key.result in
    subst (λ (k : List ℕ). WasGiven c.ended.result k (mac_data c.args.ciphertext.now)) c.one_time_key.ensures
    (c.ended.ensures key (c.update.ensures key [] c.new-state.ensures))
