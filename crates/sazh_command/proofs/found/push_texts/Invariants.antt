use Rattle.std.specs.Prelude.{◌≡◌, ◌++◌, map, take}
use Rattle.sazh_command.specs.Asked.{Text, recipient_value}
use Rattle.sazh_command.proofs.found.push_texts.Given as goal

-- those that were there, and those of the texts so far
abbrev pub invariant-loop-text : goal.invariant-loop-text
invariant-loop-text l =
    map recipient_value l.all.items ≡ map recipient_value l.fn.all.items ++ map Text (map (λ text. text.now) (take l.text-index l.texts))
