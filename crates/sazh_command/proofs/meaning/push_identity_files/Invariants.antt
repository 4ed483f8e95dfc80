use Rattle.std.specs.Prelude.{◌≡◌, ◌++◌, map, string_bytes, take}
use Rattle.sazh_command.specs.Asked.{IdentityFile, recipient_value}
use Rattle.sazh_command.proofs.meaning.push_identity_files.Given as goal

-- those that were there, and those of the names so far
abbrev pub invariant-loop-name : goal.invariant-loop-name
invariant-loop-name l =
    map recipient_value l.all.items ≡ map recipient_value l.fn.all.items ++ map IdentityFile (map string_bytes (take l.name-index l.names))
