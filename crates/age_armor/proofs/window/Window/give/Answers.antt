use Rattle.std.proofs.lemmas.Slice.{drop-append-drop}
use Rattle.std.proofs.lemmas.Grind.{common_steps}
use Rattle.std.proofs.Common.{◌≡◌, ◌+◌, ◌≤◌, ap, arith, drop, drop-drop, length, sym, take}
use Rattle.age_io.proofs.Holding.{copied-held}
use Rattle.age_armor.specs.Windows.{held_in}
use Rattle.age_armor.proofs.Windows.{held_size}
use Rattle.age_armor.proofs.window.Window.give.Goals as goal

pub returns : goal.returns
unfolding held_in
returns c =
    let window = c.args.self.now in
    let n = c.min-count.result in
    let all : window.filled ≤ length window.bytes = omega (arith, window.within, window.room) in
    let fits : window.given + n ≤ window.filled = grind (arith, common_steps) in
    record {
      count = rw (held_size window) c.min-count.ensures;
      left = sym (drop-drop n window.given (take window.filled window.bytes));
      bytes = copied-held window.bytes c.copy_from_slice.new.self
          (drop n c.args.buf.now) window.given window.filled n all fits c.copy_from_slice.ensures.after;
      beyond =
          let size : length c.copy_from_slice.new.self ≡ n = omega (arith, all, fits, ap length c.copy_from_slice.ensures.after) in
          drop-append-drop n c.args.buf.now c.copy_from_slice.new.self n (omega arith) size;
    }
