use Rattle.std.proofs.Common.{◌≡◌, ◌/◌, length, add-one, refl, arith}
use Rattle.age_v1.specs.Payload.{payload, last_piece}
use Rattle.age_v1.proofs.Cuts.{cut_slice, cut_slice_rest}
use Rattle.test_support.proofs.whole.seal_whole.Goals as goal

pub loop-i-preserved : goal.loop-i-preserved
loop-i-preserved g c =
    let out = c.in_ok-extend_from_slice.ensures.items in
    rw (
      add-one,
      out,
      c.loop-i.invariant,
      c.deref.ensures.value,
      c.in_ok-seal.ensures,
      c.nonce_of.ensures,
      cut_slice 65536 c.loop-i.i c.args.plain.now,
    ) refl

pub returns : goal.returns
unfolding payload
returns g c =
    let plain = c.args.plain.now in
    let last = last_piece (length plain) in
    let is_last : c.saturating_sub-last.result / 65536 ≡ last = rw c.saturating_sub-last.ensures refl in
    let end : c.loop-i.i ≡ last = omega arith in
    let out = c.in_ok-extend_from_slice-2.ensures.items in
    rw (
      out,
      c.loop-i.invariant,
      end,
      c.deref-2.ensures.value,
      c.in_ok-seal-2.ensures,
      c.nonce_of-2.ensures,
      is_last,
      cut_slice_rest 65536 last plain (omega arith),
    ) refl
