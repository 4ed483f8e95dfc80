use Rattle.std.proofs.Common.{◌≡◌, ◌+◌, ◌-◌, ◌∙◌, ◌*◌, ◌/◌, ◌%◌, ◌^◌, ◌<◌, ◌≤◌, All, get_or, take, length, subst, arith}
use Rattle.std.proofs.lemmas.List.Elements.{All-from_get_or}
use Rattle.age_bech32.specs.Groups.{IsRegrouped}
use Rattle.age_bech32.proofs.Regrouping.{Regrouping, begun, joined_state, gave, placed, given_fits, filled, whole, last_is}
use Rattle.age_bech32.proofs.Lists.{set_last, whole as taken}
use Rattle.age_bech32.proofs.Written.{groups-same}
use Rattle.age_bech32.proofs.groups.groups_into.Goals as goal
use Rattle.age_bech32.proofs.groups.groups_into.Goals.{then-count-ge5, else-count-ge5}

pub loop-byte-init : goal.loop-byte-init
loop-byte-init c = record { few = omega arith; placed = omega arith; state = begun 8 5 c.args.bytes.now }

pub give-held-requires-clause-fits : goal.give-held-requires-clause-fits
give-held-requires-clause-fits c =
    let full : c.loop-byte.count + 8 ≡ c.loop-byte.count + 3 + 5 = omega arith in
    let byte : get_or c.args.bytes.now c.loop-byte.byte-index 0 < 2 ^ 8 = omega (arith, c.type_inv.bytes c.loop-byte.byte-index) in
    let fits : c.joined.result / 2 ^ (c.loop-byte.count + 3) < 2 ^ 5 =
    given_fits 8 5 c.args.bytes.now (take c.loop-byte.at c.loop-byte.groups) (c.loop-byte.byte-index + 1) (c.loop-byte.count + 8)
    (c.loop-byte.count + 3) c.joined.result full
    (joined_state 8 5 c.args.bytes.now (take c.loop-byte.at c.loop-byte.groups) c.loop-byte.byte-index c.loop-byte.count c.loop-byte.held
    c.joined.result c.loop-byte-test.true
    byte c.loop-byte.invariant.state c.joined.ensures) in
    omega arith

pub loop-byte-preserved : goal.loop-byte-preserved
loop-byte-preserved c =
    let full : c.loop-byte.count + 8 ≡ c.loop-byte.count + 3 + 5 = omega arith in
    let byte : get_or c.args.bytes.now c.loop-byte.byte-index 0 < 2 ^ 8 = omega (arith, c.type_inv.bytes c.loop-byte.byte-index) in
    let room : c.loop-byte.at < length c.loop-byte.groups = omega arith in
    let state : Regrouping 8 5 c.args.bytes.now (take (c.loop-byte.at + 1) c.give-held.new.places) (c.loop-byte.byte-index + 1)
    (c.loop-byte.count + 3) c.give-held.result =
    gave 8 5 c.args.bytes.now c.loop-byte.groups c.give-held.new.places c.loop-byte.at (c.loop-byte.byte-index + 1) (c.loop-byte.count + 8)
    (c.loop-byte.count + 3)
    c.joined.result c.give-held.result full room c.give-held.ensures.places c.give-held.ensures.rest
    (joined_state 8 5 c.args.bytes.now (take c.loop-byte.at c.loop-byte.groups) c.loop-byte.byte-index c.loop-byte.count c.loop-byte.held
    c.joined.result c.loop-byte-test.true
    byte c.loop-byte.invariant.state c.joined.ensures) in
    elim c.if-count-ge5.branch [
      | then-count-ge5 w ↦
          let five : c.loop-byte.count + 3 ≡ c.loop-byte.count + 3 - 5 + 5 = omega arith in
          let more : c.loop-byte.at + 1 < length c.give-held.new.places = omega arith in
          record {
            few = omega arith;
            placed = omega arith;
            state = placed 8 5 c.args.bytes.now w.give-held-then-count-ge5.new.places c.if-count-ge5.groups (c.loop-byte.at + 1 + 1) c.if-count-ge5.at
                (c.loop-byte.byte-index + 1) (c.loop-byte.count + 3 - 5) c.if-count-ge5.count w.give-held-then-count-ge5.result c.if-count-ge5.held
                w.groups-is w.at-is w.count-is w.held-is
                (gave 8 5 c.args.bytes.now c.give-held.new.places w.give-held-then-count-ge5.new.places (c.loop-byte.at + 1)
                (c.loop-byte.byte-index + 1)
                (c.loop-byte.count + 3) (c.loop-byte.count + 3 - 5) c.give-held.result w.give-held-then-count-ge5.result five more
                w.give-held-then-count-ge5.ensures.places w.give-held-then-count-ge5.ensures.rest state);
          }
      | else-count-ge5 w ↦
          record {
            few = omega arith;
            placed = omega arith;
            state = placed 8 5 c.args.bytes.now c.give-held.new.places c.if-count-ge5.groups (c.loop-byte.at + 1) c.if-count-ge5.at
                (c.loop-byte.byte-index + 1) (c.loop-byte.count + 3) c.if-count-ge5.count c.give-held.result c.if-count-ge5.held
                w.groups-is w.at-is w.count-is w.held-is state;
          }
    ]

pub overflow_cast-groups : goal.overflow_cast-groups
overflow_cast-groups c =
    let fits : c.loop-byte.held * 2 ^ (5 - c.loop-byte.count) % 2 ^ 32 < 2 ^ 5 =
    (last_is c.args.bytes.now (take c.loop-byte.at c.loop-byte.groups) c.loop-byte.byte-index c.loop-byte.count c.loop-byte.held
    c.loop-byte.invariant.few c.loop-byte.invariant.state).0 in
    omega arith

pub returns-then-count-gt0 : goal.returns-then-count-gt0
returns-then-count-gt0 c =
    let all : All (λ byte. byte < 2 ^ 8) c.args.bytes.now =
    All-from_get_or (λ byte. byte < 2 ^ 8) c.args.bytes.now 0 (λ i l. let h = c.type_inv.bytes i in omega (arith, h)) in
    let last = last_is c.args.bytes.now (take c.loop-byte.at c.loop-byte.groups) c.loop-byte.byte-index c.loop-byte.count c.loop-byte.held
    c.loop-byte.invariant.few c.loop-byte.invariant.state in
    let room : c.loop-byte.at < length c.loop-byte.groups = omega arith in
    let full : length c.loop-byte.groups ≡ c.loop-byte.at + 1 = omega arith in
    set_last c.loop-byte.groups c.loop-byte.at (c.loop-byte.held * 2 ^ (5 - c.loop-byte.count) % 2 ^ 32) room full
    ∙ groups-same c.args.bytes.now _ (filled c.args.bytes.now
    (take c.loop-byte.at c.loop-byte.groups) c.loop-byte.byte-index c.loop-byte.count c.loop-byte.held c.loop-byte-test.false
    c.loop-byte.auto.byte-index-end c.loop-byte.invariant.state c.if-count-gt0.true c.loop-byte.invariant.few all
    (c.loop-byte.held * 2 ^ (5 - c.loop-byte.count) % 2 ^ 32) last.1).1

pub returns-else-count-gt0 : goal.returns-else-count-gt0
returns-else-count-gt0 c =
    let all : All (λ byte. byte < 2 ^ 8) c.args.bytes.now =
    All-from_get_or (λ byte. byte < 2 ^ 8) c.args.bytes.now 0 (λ i l. let h = c.type_inv.bytes i in omega (arith, h)) in
    let none : c.loop-byte.count ≡ 0 = omega arith in
    let full : length c.loop-byte.groups ≤ c.loop-byte.at = omega arith in
    groups-same c.args.bytes.now c.loop-byte.groups
    (subst (IsRegrouped c.args.bytes.now) (taken c.loop-byte.groups c.loop-byte.at full)
    (whole c.args.bytes.now (take c.loop-byte.at c.loop-byte.groups) c.loop-byte.byte-index c.loop-byte.count c.loop-byte.held c.loop-byte-test.false
    c.loop-byte.auto.byte-index-end c.loop-byte.invariant.state none all))
