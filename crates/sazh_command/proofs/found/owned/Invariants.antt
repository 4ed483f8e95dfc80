use Rattle.std.specs.Prelude.{◌≡◌, map, string_bytes, take}
use Rattle.sazh_command.proofs.found.owned.Given as goal

-- the texts so far are those so far that they copy
abbrev pub invariant-loop-text : goal.invariant-loop-text
invariant-loop-text l = map string_bytes l.all.items ≡ map (λ text. text.now) (take l.text-index l.texts)
