use Rattle.std.proofs.Common.{string_bytes, sym, ◌∙◌}
use Rattle.age_v1.specs.Stanza.{is_string_of}
use Rattle.std.proofs.lemmas.List.Folds.{list_all-map}
use Rattle.age_protocol.proofs.gathering.are_labels.Goals as goal

pub returns : goal.returns
returns c = c.is_each_label.ensures ∙ sym (list_all-map is_string_of (λ l. string_bytes l) c.args.labels.now.keys)
