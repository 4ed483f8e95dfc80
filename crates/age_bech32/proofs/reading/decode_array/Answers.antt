use Rattle.std.proofs.Common.{◌∙◌, ap, sym}
use Rattle.age_bech32.specs.Symbols.{values_of}
use Rattle.age_bech32.specs.Groups.{byte_count, bytes_of_groups}
use Rattle.age_bech32.proofs.Spelling.{values-size}
use Rattle.age_bech32.proofs.Regrouping.{length-bytes}
use Rattle.age_bech32.proofs.reading.decode_array.Goals as goal

pub returns-then-byte_count : goal.returns-then-byte_count
returns-then-byte_count g c = (
  bytes_of_groups (values_of c.in-Some.symbols.now),
  c.in-Some.ensures.1,
  λ e. c.if-byte_count.true (c.byte_count.ensures ∙ ap byte_count (sym (values-size c.in-Some.symbols.now))
      ∙ sym (length-bytes (values_of c.in-Some.symbols.now)) ∙ e),
)
