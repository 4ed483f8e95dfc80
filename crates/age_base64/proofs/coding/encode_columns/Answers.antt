use Rattle.age_base64.proofs.coding.encode_columns.Goals as goal

pub returns : goal.returns
returns c = rw (c.header_engine.ensures.0 c.args.bytes.now) at c.encode.ensures.text
