use Rattle.std.specs.Prelude.{◌≡◌, ◌++◌, map, take}
use Rattle.sazh_command.specs.Asked.{File, recipient_value}
use Rattle.sazh_command.proofs.found.push_files.Given as goal

-- those that were there, and those of the names so far
abbrev pub invariant-loop-name : goal.invariant-loop-name
invariant-loop-name l =
    map recipient_value l.all.items ≡ map recipient_value l.fn.all.items ++ map File (map (λ name. name.now) (take l.name-index l.names))
