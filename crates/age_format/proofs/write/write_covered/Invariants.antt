use Rattle.std.proofs.Common.{◌++◌, take}
use Rattle.std.specs.List.{AllByRecursion, flat_map}
use Rattle.age_base64.specs.Lines.{line}
use Rattle.age_v1.specs.Stanza.{IsStanza, stanza_text}
use Rattle.age_v1.specs.Header.{version_line}
use Rattle.age_format.proofs.write.write_covered.Given as goal

abbrev pub invariant-loop-stanza : goal.invariant-loop-stanza
invariant-loop-stanza g l = AllByRecursion IsStanza (take l.stanza-index l.stanzas)
    × g.T.Sink.took l.fn.out (line version_line ++ flat_map stanza_text (take l.stanza-index l.stanzas)) l.out
