use Rattle.std.proofs.Common.{◌≡◌, ◌+◌, ◌-◌, ◌*◌, ◌/◌, ◌∙◌, List, ℕ, refl, subst, arith, length, take}
use Rattle.chacha20.specs.Blocks.{IsEncryptedTo}
use Rattle.poly1305.specs.Given.{WasGiven}
use Rattle.poly1305.proofs.Accumulating.{take_part}
use Rattle.chacha20poly1305.proofs.Groups.{length-rest_encrypted, rest_encrypted}
use Rattle.chacha20poly1305.proofs.sealing.decrypt_groups.Goals as goal

pub groups-init : goal.groups-init
groups-init c = (refl, c.requires.unbegun, λ same. same, λ one powers given. given)

pub groups-preserved : goal.groups-preserved
groups-preserved c =
    let key = c.args.key.now in
    let nonce = c.args.nonce.now in
    let text = c.args.ciphertext.now in
    let n = c.groups.n in
    let done = c.rounds_beside.ensures.rounds key nonce _ _
    (c.next_round-in-groups.ensures key nonce _ 1 _ (c.next_round.ensures key nonce _ 0 _ c.states_of-before.ensures)) in
    let group = take_part text (512 * n) (512 * n + 512 - 512 * n) (512 * (n + 1)) (omega arith) in (
      c.combine_group.ensures.length ∙ c.groups.invariant.0,
      c.rounds_beside.ensures.unbegun,
      λ same. c.combine_group.ensures.encrypted key nonce text done
          (c.groups.invariant.2 same),
      λ one powers given. subst (λ (t : List ℕ). WasGiven c.rounds_beside.new.state one t) group
          (c.rounds_beside.ensures.given one _ powers (c.groups.invariant.3 one powers given)),
    )

pub returns-clause-decrypted : goal.returns-clause-decrypted
returns-clause-decrypted c = λ same.
    let key = c.args.key.now in
    let nonce = c.args.nonce.now in
    let text = c.args.ciphertext.now in
    let whole = length text / 512 in
    let done : c.groups.n ≡ whole = omega arith in
    rest_encrypted key nonce text c.groups.bytes _ whole _ (omega arith) c.counter_of.ensures
    (subst (λ (n : ℕ). IsEncryptedTo key 1 nonce 0 text (512 * n) c.groups.bytes) done (c.groups.invariant.2 same)) c.encrypt_from.ensures

pub returns-clause-given : goal.returns-clause-given
returns-clause-given c = λ one powers given.
    let whole = length c.args.ciphertext.now / 512 in
    let done : c.groups.n ≡ whole = omega arith in
    subst (λ (n : ℕ). WasGiven c.groups.state one (take (512 * n) c.args.ciphertext.now)) done (c.groups.invariant.3 one powers given)

pub returns-clause-length : goal.returns-clause-length
returns-clause-length c =
    length-rest_encrypted c.args.key.now c.args.nonce.now c.groups.bytes _ (length c.args.ciphertext.now / 512) _ c.encrypt_from.ensures
    ∙ c.groups.invariant.0
