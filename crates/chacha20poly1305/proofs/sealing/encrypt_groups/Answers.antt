use Rattle.std.proofs.Common.{◌≡◌, ◌+◌, ◌-◌, ◌*◌, ◌/◌, ◌∙◌, List, ℕ, ap, refl, sym, subst, arith, length, take}
use Rattle.chacha20.specs.Blocks.{IsEncryptedTo}
use Rattle.chacha20.proofs.Streams.{length-encrypted_to}
use Rattle.poly1305.specs.Given.{WasGiven}
use Rattle.poly1305.proofs.Accumulating.{take_part}
use Rattle.chacha20poly1305.proofs.Groups.{front_kept, length-rest_encrypted, rest_encrypted}
use Rattle.chacha20poly1305.proofs.sealing.encrypt_groups.Goals as goal

pub groups-init : goal.groups-init
groups-init c = (refl, c.requires.unbegun, λ text is. is, λ one powers given. given)

pub groups-preserved : goal.groups-preserved
groups-preserved c =
    let key = c.args.key.now in
    let nonce = c.args.nonce.now in
    let n = c.groups.n in
    let done = c.rounds_beside.ensures.rounds key nonce _ _
    (c.next_round-in-groups.ensures key nonce _ 1 _ (c.next_round.ensures key nonce _ 0 _ c.states_of-before.ensures)) in
    let bytes = c.groups.bytes in
    let next : n ≡ n + 1 - 1 = omega arith in
    let group = take_part bytes (512 * (n - 1)) (512 * n - 512 * (n - 1)) (512 * n) (omega (arith, c.requires.within.0)) in (
      c.combine_group.ensures.length ∙ c.groups.invariant.0,
      c.rounds_beside.ensures.unbegun,
      λ text is. c.combine_group.ensures.encrypted key nonce text done
          (c.groups.invariant.2 text is),
      λ one powers given. subst (λ (k : ℕ). WasGiven c.rounds_beside.new.state one (take (512 * k) c.combine_group.new.bytes)) next (
          subst (λ (t : List ℕ). WasGiven c.rounds_beside.new.state one t) (group ∙ sym c.combine_group.ensures.front)
          (c.rounds_beside.ensures.given one _ powers (c.groups.invariant.3 one powers given))),
    )

pub returns-clause-encrypted : goal.returns-clause-encrypted
returns-clause-encrypted c = λ text is.
    let key = c.args.key.now in
    let nonce = c.args.nonce.now in
    let whole = length c.args.bytes.now / 512 in
    let done : c.groups.n ≡ whole = omega (arith, c.requires.within.1) in
    let long = length-encrypted_to key 1 nonce 0 text c.args.bytes.now _ is in
    rest_encrypted key nonce text c.groups.bytes _ whole _ (omega (arith, long)) c.counter_of.ensures
    (subst (λ (n : ℕ). IsEncryptedTo key 1 nonce 0 text (512 * n) c.groups.bytes) done (c.groups.invariant.2 text is)) c.encrypt_from.ensures

pub returns-clause-given : goal.returns-clause-given
returns-clause-given c = λ one powers given.
    let whole = length c.args.bytes.now / 512 in
    let done : c.groups.n ≡ whole = omega (arith, c.requires.within.1) in
    let before = subst (λ (n : ℕ). WasGiven c.groups.state one (take (512 * (n - 1)) c.groups.bytes)) done (c.groups.invariant.3 one powers given) in
    subst (λ (t : List ℕ). WasGiven c.groups.state one t)
    (front_kept c.args.key.now c.args.nonce.now c.groups.bytes _ whole _ (ap (λ n. n / 512) (sym c.groups.invariant.0)) c.encrypt_from.ensures) before

pub returns-clause-length : goal.returns-clause-length
returns-clause-length c =
    length-rest_encrypted c.args.key.now c.args.nonce.now c.groups.bytes _ (length c.args.bytes.now / 512) _ c.encrypt_from.ensures
    ∙ c.groups.invariant.0
