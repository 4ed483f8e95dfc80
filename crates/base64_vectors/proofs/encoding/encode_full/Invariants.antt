use Rattle.std.proofs.Common.{◌≡◌, ◌*◌, take, length}
use Rattle.age_base64.specs.Base64.{padded_columns}
use Rattle.base64_vectors.proofs.encoding.encode_full.Given as goal

abbrev pub invariant-lines : goal.invariant-lines
invariant-lines l = (length l.columns ≡ length l.fn.columns) × (take (64 * l.line) l.columns ≡ padded_columns (take (48 * l.line) l.bytes))
