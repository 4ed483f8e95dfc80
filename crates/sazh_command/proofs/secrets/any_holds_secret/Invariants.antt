use Rattle.std.proofs.Common.{◌↔◌, map, string_bytes, length}
use Rattle.sazh_command.specs.Secrets.{AnyHoldsSecret}
use Rattle.sazh_command.proofs.secrets.any_holds_secret.Given as goal

-- one of all words holds a secret where one of the rest of them does
abbrev pub invariant-all : goal.invariant-all
invariant-all l = AnyHoldsSecret (map string_bytes l.words) ↔ AnyHoldsSecret (map string_bytes l.rest)

abbrev pub decreases-all : goal.decreases-all
decreases-all l = length l.rest
