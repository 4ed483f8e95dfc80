use Rattle.std.proofs.Common.{◌≡◌, ◌-◌, ◌*◌, ◌/◌, ◌++◌, ◌∙◌, List, ℕ, sym, subst, arith, length, take}
use Rattle.std.proofs.lemmas.List.{take_at}
use Rattle.poly1305.specs.Given.{WasGiven}
use Rattle.chacha20poly1305.proofs.Groups.{front_with_piece, with_piece}
use Rattle.chacha20poly1305.proofs.sealing.append_beside.Goals as goal

pub returns-clause-encrypted : goal.returns-clause-encrypted
returns-clause-encrypted c = λ text is.
    let piece = c.args.piece.now in
    let from = c.len-from.result / 512 in
    let size : 512 * from ≡ length c.args.bytes.now.items = omega (arith, c.len-from.ensures, c.requires.whole.1) in
    let back = take_at c.encrypt_groups.new.bytes _ c.extend_from_slice.new.self.len (c.encrypt_groups.ensures.length ∙ c.deref_mut.ensures.len) in
    back ∙ c.encrypt_groups.ensures.encrypted (text ++ piece)
    (with_piece c.args.key.now c.args.nonce.now text c.args.bytes.now.items piece _ from is
    (c.deref_mut.ensures.value ∙ c.in_ok-extend_from_slice.ensures.items) size)

pub returns-clause-given : goal.returns-clause-given
returns-clause-given c = λ one powers given.
    let from = c.len-from.result / 512 in
    let size : 512 * from ≡ length c.args.bytes.now.items = omega (arith, c.len-from.ensures, c.requires.whole.1) in
    let back = take_at c.encrypt_groups.new.bytes _ c.extend_from_slice.new.self.len (c.encrypt_groups.ensures.length ∙ c.deref_mut.ensures.len) in
    let before = front_with_piece c.args.bytes.now.items c.args.piece.now _ from
    (c.deref_mut.ensures.value ∙ c.in_ok-extend_from_slice.ensures.items) size in
    subst (λ (t : List ℕ). WasGiven c.encrypt_groups.new.state one (take (512 * (length t / 512 - 1)) t)) (sym back)
    (c.encrypt_groups.ensures.given one powers (subst (λ (t : List ℕ). WasGiven c.args.state.now one t) before given))
