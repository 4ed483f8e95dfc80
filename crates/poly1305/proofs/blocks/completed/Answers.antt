use Rattle.std.proofs.Common.{◌+◌, ◌-◌, ◌≤◌, ◌++◌, length, take, ap, arith, ◌∙◌}
use Rattle.poly1305.proofs.Accumulating.{put_to_end}
use Rattle.poly1305.proofs.blocks.completed.Goals as goal

pub returns : goal.returns
returns c =
    let begun = c.args.begun.now in
    let filled = c.args.filled in
    let size : length begun ≤ filled + (16 - filled) = omega arith in
    put_to_end filled (16 - filled) begun c.copy_from_slice.new.self size ∙ ap (λ l. take filled begun ++ l) c.copy_from_slice.ensures.after
