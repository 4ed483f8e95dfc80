use Rattle.std.proofs.Common.{sym, ◌∙◌, arith}
use Rattle.age_base64.proofs.Columns.{bytes-from_index}
use Rattle.age_base64.proofs.Pieces.{refused-columns}
use Rattle.age_base64.proofs.coding.decode_columns.Goals as goal

pub returns-in-Ok-clause-found : goal.returns-in-Ok-clause-found
returns-in-Ok-clause-found c =
    let e = c.header_engine-engine.ensures in
    (bytes-from_index c.in-Ok.bytes.items c.in-Ok.ensures.bytes, sym (e.0 c.in-Ok.bytes.items) ∙ sym (c.in-Ok.ensures.exact e.1))

pub unreachable-requires : goal.unreachable-requires
unreachable-requires c =
    let failure = c.in-Err-DecodeError.ensures.err in
    refused-columns c.header_engine-engine.result c.args.text.now c.in-Err-DecodeError.field-0-0 c.header_engine-engine.ensures
    (λ i. let f = c.type_inv.text i in omega arith)
    (rw c.in-Err-DecodeError.field-0-is at failure) (c.are_columns.ensures.is c.if-not-are_columns.false)
