use Rattle.std.proofs.Common.{◌-◌, ◌*◌, ◌/◌, ◌∙◌, List, [], ℕ, subst, arith, length}
use Rattle.std.proofs.lemmas.List.{take_all, take_at}
use Rattle.poly1305.specs.Given.{WasGiven}
use Rattle.poly1305.proofs.Accumulating.{take_part}
use Rattle.chacha20poly1305.specs.Aead.{mac_data, one_time_key, tag_of}
use Rattle.chacha20poly1305.proofs.sealing.decrypt_beside.Goals as goal

pub returns-clause-verified : goal.returns-clause-verified
unfolding tag_of
returns-clause-verified c =
    let text = c.args.ciphertext.now in
    let one = one_time_key c.args.key.now c.args.nonce.now in
    let start = subst (λ (k : List ℕ). WasGiven c.new-state.result k []) c.one_time_key.ensures c.new-state.ensures in
    let groups = c.decrypt_groups.ensures.given one (c.new-powers.ensures one [] start) start in
    let whole = 512 * (length text / 512) in
    let joined = take_part text whole (length text - whole) (length text) (omega arith) ∙ take_all (length text) text (omega arith) in
    let all = subst (λ (t : List ℕ). WasGiven c.update.new.self one t) joined (c.update.ensures one _ groups) in
    c.verify.ensures one (mac_data text) (c.ended.ensures one all)

pub returns-clause-decrypted : goal.returns-clause-decrypted
returns-clause-decrypted c =
    take_at c.decrypt_groups.new.bytes _ c.args.bytes.now.len (c.decrypt_groups.ensures.length ∙ c.deref_mut.ensures.len)
    ∙ c.decrypt_groups.ensures.decrypted (c.deref_mut.ensures.value ∙ c.requires)
