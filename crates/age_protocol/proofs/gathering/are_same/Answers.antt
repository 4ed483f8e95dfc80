use Rattle.std.proofs.Common.{bytes_eq, string_bytes, sym, ◌∙◌}
use Rattle.std.specs.Cmp.Derive.Mapped.{pointwise-map}
use Rattle.age_protocol.proofs.gathering.are_same.Goals as goal

pub returns : goal.returns
returns c = c.eq.ensures ∙ sym (pointwise-map (λ l. string_bytes l) bytes_eq c.args.l_labels.now.keys c.args.r_labels.now.keys)
