-- What a window holds, over its parts.
use Rattle.std.proofs.Common.{◌≡◌, ℕ, ◌+◌, ◌-◌, ◌≤◌, List, [], length, take, drop, ap, sym, arith, ◌∙◌}
use Rattle.std.proofs.lemmas.List.{drop-take}
use Rattle.age_io.specs.Buffering.{held}
use Rattle.age_io.specs.BehindLemmas.{held-empty}
use Rattle.age_io.proofs.Holding.{length-held}
use Rattle.age_armor.specs.declared.window.Window.{Window}
use Rattle.age_armor.specs.Windows.{held_in}

pub held_mid : (bytes : List ℕ) (given filled : ℕ) → given ≤ filled → take (filled - given) (drop given bytes) ≡ held bytes given filled
held_mid bytes given filled order =
    let split : given + (filled - given) ≡ filled = omega (arith, order) in
    sym (ap (λ n. drop given (take n bytes)) (sym split) ∙ drop-take given (filled - given) bytes)

pub held_size : (window : Window) → length (held_in window) ≡ window.filled - window.given
unfolding held_in
held_size window = length-held window.bytes window.given window.filled (omega (arith, window.within, window.room))

pub held_few : (window : Window) → length (held_in window) ≤ 48
held_few window = omega (arith, held_size window, window.within)

pub held_none : (window : Window) → window.given ≡ window.filled → held_in window ≡ []
unfolding held_in
held_none window same = held-empty window.bytes window.given window.filled (omega (arith, window.within, window.room)) (omega (arith, same))
