use Rattle.std.proofs.Common.{◌<◌, ◌^◌, false, arith, inl, inr, refl, rules, take}
use Rattle.std.proofs.lemmas.List.{length-take-le}
use Rattle.std.proofs.lemmas.List.Elements.{All-take}
use Rattle.age.specs.Payload.{chunk_nonce}
use Rattle.age_slices.proofs.Pieces.{last_delivers, middle_delivers, no_last, none_left, opened_length, past_delivers}
use Rattle.age_slices.proofs.reading.next_piece.Goals as goal

pub returns-then-is_empty : goal.returns-then-is_empty
returns-then-is_empty g c = inr (none_left g.S.Suite.opened c.args.key.now c.args.number c.args.rest.now (search rules))

pub returns-then-number-ge-MOST_CHUNKS : goal.returns-then-number-ge-MOST_CHUNKS
returns-then-number-ge-MOST_CHUNKS g c = inr (past_delivers g.S.Suite.opened c.args.key.now c.args.number c.args.rest.now (omega arith))

pub returns-in-Ok-Some : goal.returns-in-Ok-Some
returns-in-Ok-Some g c =
    let key = c.args.key.now in
    let rest = c.args.rest.now in
    let number = c.args.number in
    let (many, opens) = (rw c.in-Ok-Some.field-0-is at c.in-Ok-Some.ensures) in
    let full = length-take-le 65552 rest many in
    let long = opened_length g.S.Suite.seal_of g.S.Suite.opened g.met.S.Suite.cipher key (chunk_nonce number false)
    (take 65552 rest) c.in-Ok-Some.piece.items
    c.known_array.ensures
    (rw c.nonce_of.ensures at c.known_array-2.ensures) (All-take (λ x. x < 2 ^ 8) 65552 rest c.known_bytes.ensures) opens in
    inr (
      refl,
      many,
      (omega arith),
      middle_delivers g.S.Suite.opened key number rest c.in-Ok-Some.piece.items many opens
          (omega (arith, long, full)) (omega arith),
    )

pub returns-in-Ok : goal.returns-in-Ok
returns-in-Ok g c =
    let (fits, opens, first) = c.in-Ok.ensures in
    inl (
      refl,
      last_delivers g.S.Suite.opened c.args.key.now c.args.number c.args.rest.now _ (rw c.in-Ok-None.field-0-is at c.in-Ok-None.ensures)
          (search rules) fits opens (first refl) (omega arith),
    )

pub returns-in-Err-open_chunk : goal.returns-in-Err-open_chunk
returns-in-Err-open_chunk g c =
    no_last g.S.Suite.opened c.args.key.now c.args.number c.args.rest.now _ (rw c.in-Ok-None.field-0-is at c.in-Ok-None.ensures)
    c.in-Err-open_chunk.ensures
