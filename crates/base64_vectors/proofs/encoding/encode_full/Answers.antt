use Rattle.std.proofs.Common.{◌≡◌, ◌≤◌, ◌+◌, ◌-◌, ◌*◌, ◌∙◌, arith, refl, length, ap, sym}
use Rattle.std.proofs.lemmas.List.{take_all}
use Rattle.age_base64.specs.Base64.{padded_columns}
use Rattle.age_base64.proofs.PaddedColumns.{padded_columns-nil}
use Rattle.base64_vectors.proofs.Lines.{another_line, line_kept}
use Rattle.base64_vectors.proofs.encoding.encode_full.Goals as goal

pub lines-init : goal.lines-init
lines-init c = (refl, sym padded_columns-nil)

pub lines-preserved : goal.lines-preserved
lines-preserved c =
    let bytes = c.args.bytes.now in
    let n = c.lines.line in
    let width : 64 * n + 64 - 64 * n ≡ 64 = omega arith in
    let part : 48 * n + 48 - 48 * n ≡ 48 = omega arith in
    let same = c.lines.invariant.0 in
    let whole : 48 * n + 48 ≤ length bytes = omega arith in
    let room : 64 * n + 64 ≤ length c.lines.columns = omega (arith, same, c.requires.room) in
    let written = rw part at c.encode_line.ensures in (
      line_kept bytes c.lines.columns c.encode_line.new.columns n _ width whole room written ∙ same,
      another_line bytes c.lines.columns c.encode_line.new.columns n _ whole (omega (arith, room)) c.lines.invariant.1 written,
    )

pub returns : goal.returns
returns c =
    let bytes = c.args.bytes.now in
    let done : 48 * c.lines.line ≡ length bytes = omega (arith, c.requires.whole) in
    sym (take_all (64 * c.lines.line) c.lines.columns (omega (arith, c.lines.invariant.0, c.requires.room))) ∙ c.lines.invariant.1
    ∙ ap padded_columns (take_all (48 * c.lines.line) bytes (omega (arith, done)))
