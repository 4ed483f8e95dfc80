use Rattle.std.proofs.Common.{◌<◌, ◌∙◌, subst, sym, w8}
use Rattle.std.proofs.lemmas.Simd.{below_from_Fits}
use lib.Lanes.{Each1}
use Rattle.base64_vectors.proofs.Decoded.{group_decoded, length-mapped, pairs_below}
use Rattle.base64_vectors.proofs.Faults.{indices_fit}
use Rattle.base64_vectors.proofs.Groups.{indices_of_bytes}
use Rattle.base64_vectors.proofs.decoding.decode_group.Goals as goal

pub returns-clause-length : goal.returns-clause-length
returns-clause-length c = c.bytes_of.ensures.length

pub returns-clause-decoded : goal.returns-clause-decoded
returns-clause-decoded c right =
    let columns = c.args.columns in
    let fits = below_from_Fits w8 columns c.fits-columns.1 in
    let is = c.indices_at.ensures in
    let indices = c.indices_at.result in
    let long = length-mapped columns c.indices_at.result c.fits-columns.0 is in
    let small = subst (λ xs. Each1 (λ index. index < 64) xs) (sym is) (indices_fit columns fits right) in
    let paired = c.pairs_of.ensures small in
    let grouped = c.groups_of.ensures (pairs_below indices c.pairs_of.result long small paired) in
    group_decoded columns c.bytes_of.result c.bytes_of.ensures.length fits right
    (indices_of_bytes indices c.pairs_of.result c.groups_of.result c.bytes_of.result long c.bytes_of.ensures.length small paired grouped
    c.bytes_of.ensures.bytes ∙ is)
