-- What stops a step stops what follows it.
use Rattle.std.proofs.Common.{ap, Result}
use Rattle.sazh_command.specs.declared.mistakes.Stop.{Stop}
use Rattle.sazh_command.specs.declared.mistakes.Stop.TheVariants.{Usage, Memory}
use Rattle.sazh_command.specs.Asked.{UsageErrorValue, StopsAt, and_then}

pub and_then_stops : {T U : Type 0} (next : T → Result U UsageErrorValue) (found : Result T UsageErrorValue) (stop : Stop)
    → StopsAt stop found → StopsAt stop (and_then next found)
and_then_stops next found (Usage error) is = ap (λ it. and_then next it) is
and_then_stops next found Memory is = tt
