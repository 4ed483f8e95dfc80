use Rattle.std.proofs.Common.{◌≡◌, ◌≤◌, ◌+◌, ◌-◌, ◌*◌, ◌/◌, ◌∙◌, arith, refl, length, ap, sym, take, drop}
use Rattle.std.proofs.lemmas.List.{take_all}
use Rattle.age_base64.specs.Lines.{line}
use Rattle.age_base64.specs.Base64.{padded_columns}
use Rattle.age_v1.specs.ArmorFullLines.{full_lines}
use Rattle.age_armor.proofs.Encoded.{another_line, columns_at}
use Rattle.age_armor.proofs.encoding.encode_lines.Goals as goal

pub lines-init : goal.lines-init
unfolding full_lines
lines-init c = refl

pub lines-preserved : goal.lines-preserved
lines-preserved c =
    let bytes = c.args.bytes.now in
    let n = c.lines.number in
    let columns : c.encode_full.new.columns ≡ padded_columns bytes = c.encode_full.ensures in
    let width : 64 * n + 64 - 64 * n ≡ 64 = omega arith in
    let whole : 48 * n + 48 ≤ length bytes = omega arith in
    let written = rw width at c.write_line.ensures in
    another_line bytes c.lines.text c.write_line.new.text n _ (omega arith) (omega arith) c.lines.invariant
    (written ∙ ap (λ z. line (take 64 (drop (64 * n) z))) columns ∙ ap line (columns_at bytes n whole))

pub returns : goal.returns
returns c =
    let done : c.lines.number ≡ length c.args.bytes.now / 48 = omega arith in
    let whole : take (65 * c.lines.number) c.lines.text ≡ c.lines.text = take_all (65 * c.lines.number) c.lines.text (omega arith) in
    sym whole ∙ c.lines.invariant ∙ ap (λ k. full_lines k c.args.bytes.now) done
