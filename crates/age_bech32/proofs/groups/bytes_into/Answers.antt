use Rattle.std.proofs.Common.{◌≡◌, ◌+◌, ◌-◌, ◌∙◌, ◌<◌, ◌≤◌, take, length, sym, arith}
use Rattle.age_bech32.specs.Symbols.{values_of}
use Rattle.age_bech32.proofs.Lists.{whole}
use Rattle.age_bech32.proofs.Spelling.{values-size}
use Rattle.age_bech32.proofs.Regrouping.{Regrouping, begun, joined_symbol, gave, placed, given_fits, bytes-same}
use Rattle.age_bech32.proofs.groups.bytes_into.Goals as goal
use Rattle.age_bech32.proofs.groups.bytes_into.Goals.{then-count-ge8, else-count-ge8}

pub loop-symbol-init : goal.loop-symbol-init
loop-symbol-init c = record { few = omega arith; placed = omega arith; state = begun 5 8 (values_of c.args.symbols.now) }

pub give-held-requires-clause-fits : goal.give-held-requires-clause-fits
give-held-requires-clause-fits c =
    let full : c.loop-symbol.count + 5 ≡ c.loop-symbol.count + 5 - 8 + 8 = omega arith in
    given_fits 5 8 (values_of c.args.symbols.now) (take c.loop-symbol.at c.loop-symbol.bytes) (c.loop-symbol.symbol-index + 1)
    (c.loop-symbol.count + 5) (c.loop-symbol.count + 5 - 8)
    c.joined-held.result full
    (joined_symbol 5 8 c.args.symbols.now (take c.loop-symbol.at c.loop-symbol.bytes) c.loop-symbol.symbol-index c.loop-symbol.count
    c.loop-symbol.held c.joined-held.result
    c.known_value.result c.loop-symbol-test.true c.requires.symbols c.known_value.ensures c.loop-symbol.invariant.state c.joined-held.ensures)

pub loop-symbol-preserved : goal.loop-symbol-preserved
loop-symbol-preserved c =
    let state : Regrouping 5 8 (values_of c.args.symbols.now) (take c.loop-symbol.at c.loop-symbol.bytes) (c.loop-symbol.symbol-index + 1)
    (c.loop-symbol.count + 5) c.joined-held.result =
    joined_symbol 5 8 c.args.symbols.now (take c.loop-symbol.at c.loop-symbol.bytes) c.loop-symbol.symbol-index c.loop-symbol.count
    c.loop-symbol.held c.joined-held.result
    c.known_value.result c.loop-symbol-test.true c.requires.symbols c.known_value.ensures c.loop-symbol.invariant.state c.joined-held.ensures in
    elim c.if-count-ge8.branch [
      | then-count-ge8 w ↦
          let full : c.loop-symbol.count + 5 ≡ c.loop-symbol.count + 5 - 8 + 8 = omega arith in
          let room : c.loop-symbol.at < length c.loop-symbol.bytes = omega arith in
          record {
            few = omega arith;
            placed = omega arith;
            state = placed 5 8 (values_of c.args.symbols.now) w.give-held.new.places c.if-count-ge8.bytes (c.loop-symbol.at + 1) c.if-count-ge8.at
                (c.loop-symbol.symbol-index + 1) (c.loop-symbol.count + 5 - 8) c.if-count-ge8.count w.give-held.result c.if-count-ge8.held
                w.bytes-is w.at-is w.count-is w.held-is
                (gave 5 8 (values_of c.args.symbols.now) c.loop-symbol.bytes w.give-held.new.places c.loop-symbol.at (c.loop-symbol.symbol-index + 1)
                (c.loop-symbol.count + 5) (c.loop-symbol.count + 5 - 8) c.joined-held.result w.give-held.result full room
                w.give-held.ensures.places w.give-held.ensures.rest state);
          }
      | else-count-ge8 w ↦
          record {
            few = omega arith;
            placed = omega arith;
            state = placed 5 8 (values_of c.args.symbols.now) c.loop-symbol.bytes c.if-count-ge8.bytes c.loop-symbol.at c.if-count-ge8.at
                (c.loop-symbol.symbol-index + 1) (c.loop-symbol.count + 5) c.if-count-ge8.count c.joined-held.result c.if-count-ge8.held
                w.bytes-is w.at-is w.count-is w.held-is state;
          }
    ]

pub returns : goal.returns
returns c =
    let size : length (values_of c.args.symbols.now) ≡ length c.args.symbols.now = values-size c.args.symbols.now in
    let full : length c.loop-symbol.bytes ≤ c.loop-symbol.at = omega arith in
    sym (whole c.loop-symbol.bytes c.loop-symbol.at full)
    ∙ bytes-same (values_of c.args.symbols.now)
    (take c.loop-symbol.at c.loop-symbol.bytes) c.loop-symbol.symbol-index c.loop-symbol.count c.loop-symbol.held
    (omega arith) (omega arith) c.loop-symbol.invariant.few c.loop-symbol.invariant.state
