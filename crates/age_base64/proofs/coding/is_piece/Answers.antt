use Rattle.std.proofs.Common.{take, ◌<◌, ◌^◌, arith}
use Rattle.std.proofs.lemmas.List.Elements.{All-take}
use Rattle.age_base64.proofs.Pieces.{decoded-columns, refused-columns}
use Rattle.age_base64.proofs.coding.is_piece.Goals as goal

pub returns-in-Ok-clause-is : goal.returns-in-Ok-clause-is
returns-in-Ok-clause-is c is_true =
    let out = c.decode_slice_unchecked.new.output in
    decoded-columns c.args.engine.now c.args.piece.now (take c.in-Ok.field-0 out) c.requires.engine (λ i. let f = c.type_inv.piece i in omega arith)
    (All-take (λ x. x < 2 ^ 8) c.in-Ok.field-0 out c.known_bytes.ensures) c.in-Ok.ensures.ok.0

pub returns-in-Err-clause-not : goal.returns-in-Err-clause-not
returns-in-Err-clause-not c is_false = refused-columns c.args.engine.now c.args.piece.now c.in-Err.field-0 c.requires.engine
    (λ i. let f = c.type_inv.piece i in omega arith) c.in-Err.ensures.err
