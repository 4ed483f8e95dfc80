use Rattle.std.proofs.Common.{◌≡◌, ◌≤◌, ◌+◌, ◌-◌, ◌*◌, ◌∙◌, arith, refl, length, sym, subst, take, drop, length-drop}
use Rattle.std.proofs.lemmas.List.{length-take-le}
use Rattle.std.specs.Prelude.{IsTrue}
use Rattle.age_base64.proofs.PaddedColumns.{padded_columns-nil}
use Rattle.base64_vectors.proofs.Lines.{kept}
use Rattle.base64_vectors.proofs.Decoded.{another_decoded, line_at, line_bytes}
use Rattle.base64_vectors.proofs.decoding.decode_full.Goals as goal

pub lines-init : goal.lines-init
lines-init c = (refl, padded_columns-nil)

pub returns-then-not-decode_line-clause-taken : goal.returns-then-not-decode_line-clause-taken
returns-then-not-decode_line-clause-taken c content bytes long is =
    let n = c.lines.line in
    let width : 64 * n + 64 - 64 * n ≡ 64 = omega arith in
    let fits : 48 * n + 48 ≤ length content = omega (arith, long, c.requires.room) in
    let takes = rw width at c.decode_line.ensures.taken in
    let taken = takes (take 48 (drop (48 * n) content)) (line_bytes content (48 * n) bytes)
    (length-take-le 48 (drop (48 * n) content) (omega (arith, fits, length-drop (48 * n) content))) (line_at content c.args.columns.now n fits is) in
    subst IsTrue c.if-not-decode_line.true taken

pub lines-preserved : goal.lines-preserved
lines-preserved c =
    let n = c.lines.line in
    let width : 64 * n + 64 - 64 * n ≡ 64 = omega arith in
    let part : 48 * n + 48 - 48 * n ≡ 48 = omega arith in
    let same = c.lines.invariant.0 in
    let room : 48 * n + 48 ≤ length c.lines.bytes = omega (arith, same, c.requires.room) in
    let decodes = rw width at c.decode_line.ensures.decoded in
    let decoded = decodes c.if-not-decode_line.false in
    let size = c.decode_line.ensures.length in (
      kept (48 * n) _ c.lines.bytes c.decode_line.new.bytes (omega (arith, room, part)) (size ∙ sym part) ∙ same,
      another_decoded c.args.columns.now c.lines.bytes c.decode_line.new.bytes n _ (omega (arith, room)) size c.lines.invariant.1 decoded,
    )
