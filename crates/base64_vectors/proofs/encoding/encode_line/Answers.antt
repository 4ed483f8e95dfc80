use Rattle.base64_vectors.proofs.Lines.{line_written}
use Rattle.base64_vectors.proofs.encoding.encode_line.Goals as goal

pub returns : goal.returns
returns c =
    line_written c.args.bytes.now c.args.columns.now c.encode_group.new.columns c.encode_group-2.new.columns c.encode_group-3.new.columns
    c.encode_group-4.new.columns
    c.requires.0 c.requires.1 c.encode_group.ensures c.encode_group-2.ensures c.encode_group-3.ensures c.encode_group-4.ensures
