use Rattle.std.proofs.Common.{◌+◌, ◌-◌, ◌<◌, ◌≤◌, ◌%◌, ◌++◌, length, take, ap, sym, arith, ◌∙◌}
use Rattle.std.proofs.lemmas.Slice.{take-put_mid}
use Rattle.poly1305.specs.Mac.{clamped}
use Rattle.poly1305.proofs.Accumulating.{accumulated_more, count_more, rest_more}
use Rattle.poly1305.proofs.authenticator.Poly1305.hold.Goals as goal

pub returns : goal.returns
returns c = λ key text given.
    let bytes = c.args.bytes.now in
    let filled = c.args.self.now.filled in
    let block = c.args.self.now.block in
    let end = filled + length bytes in
    let fits : length text % 16 + length bytes < 16 = omega (arith, given.count, c.requires) in
    let within : filled ≤ length block = omega (arith, c.args.self.now.begun) in
    let written = c.copy_from_slice.ensures.after in
    let taken = take-put_mid filled (end - filled) block c.copy_from_slice.new.self end (ap (λ l. filled + length l) (sym written)) within in
    record {
      factor = given.factor;
      summand = given.summand;
      whole = given.whole ∙ accumulated_more (clamped (take 16 key)) text bytes fits;
      count = ap (λ n. n + length bytes) given.count ∙ count_more text bytes fits;
      begun = taken ∙ ap (λ l. take filled block ++ l) written ∙ ap (λ l. l ++ bytes) given.begun ∙ rest_more text bytes fits;
    }
