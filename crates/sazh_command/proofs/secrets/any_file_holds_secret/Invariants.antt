use Rattle.std.proofs.Common.{◌↔◌, map, length}
use Rattle.sazh_command.specs.Asked.{recipient_value}
use Rattle.sazh_command.specs.Secrets.{AnyFileHoldsSecret}
use Rattle.sazh_command.proofs.secrets.any_file_holds_secret.Given as goal

-- one of all names holds a secret where one of the rest of them does
abbrev pub invariant-all : goal.invariant-all
invariant-all l = AnyFileHoldsSecret (map recipient_value l.fn.all) ↔ AnyFileHoldsSecret (map recipient_value l.rest)

abbrev pub decreases-all : goal.decreases-all
decreases-all l = length l.rest
