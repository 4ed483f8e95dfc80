use Rattle.std.proofs.Common.{◌<◌, ◌∙◌, drop, length, replicate, set, ◌++◌, arith, ap, length-drop}
use Rattle.std.specs.Int.{w128, from_le_bytes}
use Rattle.poly1305.proofs.Numbering.{number_of_padded, zeros-drop}
use Rattle.poly1305.proofs.blocks.padded.Goals as goal

pub returns : goal.returns
returns c =
    let block = c.args.block.now in
    let zeros = drop (length block) (replicate 16 0) in
    let some : 0 < length zeros = rw length-drop (omega arith) in
    ap (λ front. from_le_bytes w128 (set (front ++ zeros) (length block) 1)) c.copy_from_slice.ensures.after
    ∙ number_of_padded block zeros c.requires some (zeros-drop 16 (length block))
