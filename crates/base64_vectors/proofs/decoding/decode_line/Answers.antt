use Rattle.std.proofs.Common.{◌∙◌, ap, length}
use Rattle.base64_vectors.proofs.Decoded.{length-line, line_decoded, quarter_faultless}
use Rattle.base64_vectors.proofs.decoding.decode_line.Goals as goal

pub returns-clause-length : goal.returns-clause-length
returns-clause-length c =
    ap length c.write_line.ensures
    ∙ length-line c.decode_group.result c.decode_group-2.result c.decode_group-3.result c.decode_group-4.result c.args.bytes.now
    c.decode_group.ensures.length c.decode_group-2.ensures.length c.decode_group-3.ensures.length c.decode_group-4.ensures.length c.requires.1

pub returns-clause-decoded : goal.returns-clause-decoded
returns-clause-decoded c is =
    let (ha, hb, hc, hd) = c.are_symbols.ensures.right is in
    line_decoded c.args.columns.now c.write_line.new.bytes c.decode_group.result c.decode_group-2.result c.decode_group-3.result
    c.decode_group-4.result c.requires.0
    c.decode_group.ensures.length c.decode_group-2.ensures.length c.decode_group-3.ensures.length c.write_line.ensures
    (c.decode_group.ensures.decoded ha) (c.decode_group-2.ensures.decoded hb) (c.decode_group-3.ensures.decoded hc)
    (c.decode_group-4.ensures.decoded hd)

pub returns-clause-taken : goal.returns-clause-taken
returns-clause-taken c content bytes long is =
    let columns = c.args.columns.now in
    c.are_symbols.ensures.taken (quarter_faultless content columns 0 bytes long is) (quarter_faultless content columns 16 bytes long is)
    (quarter_faultless content columns 32 bytes long is) (quarter_faultless content columns 48 bytes long is)
