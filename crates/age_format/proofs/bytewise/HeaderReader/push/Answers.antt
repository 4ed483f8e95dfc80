use Rattle.std.proofs.Common.{rules, ◌≡◌, ◌∙◌, sym, ap, arith, length, get_or}
use Rattle.age_v1.specs.HeaderTexts.{magic}
use Rattle.age_format.proofs.Deciding.{quiet_byte, magic_byte, magic_lacks}
use Rattle.age_format.proofs.Pushing.{progress_byte}
use Rattle.age_format.proofs.bytewise.HeaderReader.push.Goals as goal
use Rattle.age_format.proofs.bytewise.HeaderReader.push.Goals.{then-place-lt19+else-byte-place, else-place-lt19+else-byte-eq10+else-byte-lt32+else-byte-gt126}

pub invariant_of-self : goal.invariant_of-self
invariant_of-self c =
    let legacy = c.self.inside.legacy in
    let state = c.self.inside.state in
    let t = c.self.inside.text.items in
    let new = c.push.new.self.items in
    let start = c.self.inside.start in
    let h = c.self.invariant in
    let b = c.args.byte in
    let more = c.in_ok-push.ensures.items in
    let size : c.len-place.result ≡ length t = search rules in
    elim c.if-place-lt19.branch [
      | then-place-lt19+else-byte-place w ↦
          let byte : b ≡ get_or magic c.len-place.result 0 = w.if-byte-place.false in
          progress_byte legacy state t new start b h more (λ e. magic_lacks c.len-place.result (omega (arith, w.if-place-lt19.true)) (sym byte ∙ e))
          (magic_byte legacy t b (omega (arith, w.if-place-lt19.true)) (byte ∙ ap (λ n. get_or magic n 0) size))
      | else-place-lt19+else-byte-eq10+else-byte-lt32+else-byte-gt126 w ↦
          progress_byte legacy state t new start b h more w.if-byte-eq10.false
          (quiet_byte legacy t b (omega (arith, w.if-place-lt19.false)) w.if-byte-eq10.false w.if-byte-lt32.false w.if-byte-gt126.false)
    ]
