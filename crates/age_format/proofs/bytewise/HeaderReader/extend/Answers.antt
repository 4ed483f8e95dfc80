use Rattle.std.proofs.Common.{sym, arith, subst}
use Rattle.age_format.specs.Progress.{CanGoOn, ReaderValue}
use Rattle.age_format.proofs.Deciding.{quiet_byte}
use Rattle.age_format.proofs.Pushing.{progress_byte}
use Rattle.age_format.proofs.bytewise.HeaderReader.extend.Goals as goal

pub invariant_of-self-2 : goal.invariant_of-self-2
invariant_of-self-2 c =
    let legacy = c.self.inside.legacy in
    let t = c.self.inside.text.items in
    let b = c.args.byte in
    let on : CanGoOn t b = subst (λ (r : ReaderValue). CanGoOn r.text b) (sym c.self.view_is) c.requires in
    progress_byte legacy c.self.inside.state t c.push.new.self.items c.self.inside.start b c.self.invariant c.in_ok-push.ensures.items
    (λ e. omega (arith, on.low)) (quiet_byte legacy t b on.behind (λ e. omega (arith, on.low)) on.low on.high)
