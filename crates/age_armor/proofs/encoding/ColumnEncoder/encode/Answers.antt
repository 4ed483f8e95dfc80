use Rattle.std.proofs.Common.{◌∙◌, ◌++◌, ap, sym, drop, length}
use Rattle.base64.specs.GeneralPurpose.{encoded_size_of}
use Rattle.age_base64.specs.Base64.{padded_columns}
use Rattle.age_armor.proofs.Encoded.{encoded_size-is, count-is}
use Rattle.age_armor.proofs.encoding.ColumnEncoder.encode.Goals as goal

pub returns-clause-count : goal.returns-clause-count
returns-clause-count c =
    count-is c.self.inside.engine c.self.invariant c.args.bytes.now _ _ _ c.in-Ok.is c.requires c.encode_slice.ensures.fits
    ∙ encoded_size-is c.self.inside.engine c.self.invariant c.args.bytes.now

pub returns-clause-written : goal.returns-clause-written
returns-clause-written c =
    let bytes = c.args.bytes.now in
    let e = c.self.inside.engine in
    c.in-Ok.ensures.written ∙ ap (λ z. z ++ drop (encoded_size_of e (length bytes)) c.args.columns.now) (c.self.invariant bytes)
    ∙ ap (λ k. padded_columns bytes ++ drop k c.args.columns.now)
    (sym (count-is e c.self.invariant bytes _ _ _ c.in-Ok.is c.requires c.encode_slice.ensures.fits))
