use Rattle.std.proofs.Common.{◌≡◌, ◌+◌, ◌-◌, ◌*◌, ◌/◌, ◌++◌, ◌∙◌, List, [], ℕ, ap, sym, subst, arith, length, take, drop}
use Rattle.std.proofs.lemmas.List.{length-take-le, take_all, take-append-drop}
use Rattle.std.proofs.lemmas.Slice.{between_to_end}
use Rattle.chacha20.specs.Encryption.{chacha20_encrypt}
use Rattle.chacha20.proofs.Facts.{length-chacha20_encrypt}
use Rattle.poly1305.specs.Given.{WasGiven}
use Rattle.chacha20poly1305.specs.Aead.{mac_data, one_time_key, seal_of, tag_of}
use Rattle.chacha20poly1305.proofs.Groups.{text_more}
use Rattle.chacha20poly1305.proofs.sealing.seal_long.Goals as goal

pub pieces-init : goal.pieces-init
pieces-init c =
    let key = c.args.key.now in
    let nonce = c.args.nonce.now in
    let plain = c.args.plain.now in
    let bytes = c.append_encrypted.new.bytes.items in
    let is : bytes ≡ chacha20_encrypt key 1 nonce (take 512 plain) =
    c.in_ok-append_encrypted.ensures.value ∙ ap (λ xs. xs ++ chacha20_encrypt key 1 nonce (take 512 plain)) c.in_ok-bytes.ensures.items in
    let size : length bytes ≡ 512 = ap length is ∙ length-chacha20_encrypt key 1 nonce (take 512 plain) ∙ length-take-le 512 plain c.requires in
    let none : 0 ≡ 512 * (length bytes / 512 - 1) = omega (arith, size) in
    let given = subst (λ (one : List ℕ). WasGiven c.new-state.result one []) c.one_time_key.ensures c.new-state.ensures in
    (is, c.new-state.ensures.count, subst (λ (k : ℕ). WasGiven c.new-state.result (one_time_key key nonce) (take k bytes)) none given)

pub append_beside-requires-clause-whole : goal.append_beside-requires-clause-whole
append_beside-requires-clause-whole c =
    let text = take (512 + 4096 * c.pieces.n) c.args.plain.now in
    let long = length-take-le (512 + 4096 * c.pieces.n) c.args.plain.now (omega (arith, c.pieces_of-n-end.ensures.begun)) in
    let size : length c.pieces.bytes.items ≡ 512 + 4096 * c.pieces.n =
    ap length c.pieces.invariant.0 ∙ length-chacha20_encrypt c.args.key.now 1 c.args.nonce.now text ∙ long in
    (omega (arith, size), omega (arith, size))

pub pieces-preserved : goal.pieces-preserved
pieces-preserved c =
    let key = c.args.key.now in
    let nonce = c.args.nonce.now in
    let plain = c.args.plain.now in
    let n = c.pieces.n in
    let size = c.min-end.result - (512 + 4096 * n) in
    let joined = text_more plain n size (omega arith) (omega arith) (omega arith) in
    let given = subst (λ (one : List ℕ). WasGiven c.new-state.result one []) c.one_time_key.ensures c.new-state.ensures in (
      c.in_ok-append_beside.ensures.encrypted (take (512 + 4096 * n) plain) c.pieces.invariant.0 ∙ ap (λ xs. chacha20_encrypt key 1 nonce xs) joined,
      c.in_ok-append_beside.ensures.unbegun,
      c.in_ok-append_beside.ensures.given (one_time_key key nonce) (c.new-powers.ensures (one_time_key key nonce) [] given) c.pieces.invariant.2,
    )

pub overflow_sub-rest : goal.overflow_sub-rest
overflow_sub-rest c =
    let plain = c.args.plain.now in
    let all = take_all (512 + 4096 * c.pieces.n) plain (omega (arith, c.pieces_of-n-end.ensures.reach)) in
    let size : length c.pieces.bytes.items ≡ length plain =
    ap length c.pieces.invariant.0 ∙ length-chacha20_encrypt c.args.key.now 1 c.args.nonce.now _ ∙ ap length all in
    omega (arith, size, c.len.ensures, c.requires)

pub returns : goal.returns
unfolding seal_of tag_of
returns c =
    let key = c.args.key.now in
    let nonce = c.args.nonce.now in
    let plain = c.args.plain.now in
    let one = one_time_key key nonce in
    let bytes = c.pieces.bytes.items in
    let all = take_all (512 + 4096 * c.pieces.n) plain (omega (arith, c.pieces_of-n-end.ensures.reach)) in
    let is : bytes ≡ chacha20_encrypt key 1 nonce plain = c.pieces.invariant.0 ∙ ap (λ xs. chacha20_encrypt key 1 nonce xs) all in
    let rest = 512 * (c.len.result / 512 - 1) in
    let place : 512 * (length bytes / 512 - 1) ≡ rest = omega (arith, c.len.ensures) in
    let before = subst (λ (k : ℕ). WasGiven c.pieces.state one (take k bytes)) place c.pieces.invariant.2 in
    let last = c.deref.result.now in
    let joined : take rest bytes ++ take (length last - rest) (drop rest last) ≡ c.deref-2.result.now =
    ap (λ xs. take rest bytes ++ xs) (between_to_end last rest (length last) (omega arith))
    ∙ ap (λ xs. take rest bytes ++ drop rest xs) c.deref.ensures.value ∙ take-append-drop rest bytes ∙ sym c.deref-2.ensures.value in
    let given = subst (λ (t : List ℕ). WasGiven c.update.new.self one t) joined (c.update.ensures one (take rest bytes) before) in
    let tag : c.finalize-tag.result ≡ tag_of key nonce bytes =
    c.finalize-tag.ensures one (mac_data c.deref-2.result.now) (c.ended.ensures one given) ∙ ap (λ xs. tag_of key nonce xs) c.deref-2.ensures.value in
    c.in_ok-extend_from_slice.ensures.items ∙ ap (λ t. bytes ++ t) tag ∙ ap (λ xs. xs ++ tag_of key nonce xs) is
