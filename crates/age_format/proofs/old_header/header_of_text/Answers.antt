use Rattle.std.proofs.Common.{arith, subst}
use Rattle.age_error.specs.Bytes.{AreBytes}
use Rattle.age_v1.specs.HeaderTexts.{or_legacy}
use Rattle.age_format.proofs.HeaderReading.{has_uncovered, header_of}
use Rattle.age_format.proofs.old_header.header_of_text.Goals as goal

pub overflow_sub-len : goal.overflow_sub-len
overflow_sub-len c =
    let long = has_uncovered or_legacy c.args.read.text.items c.args.read.stanzas.items c.args.read.mac c.requires in
    omega (arith, long, c.len.ensures)

pub invariant_of-result : goal.invariant_of-result
invariant_of-result c = record {
  header = header_of or_legacy c.args.read.text.items c.args.read.stanzas.items c.args.read.mac c.requires;
  front = subst AreBytes c.as_slice.ensures.value c.known_bytes.ensures;
}
