use Rattle.std.proofs.Common.{◌≡◌, ◌∙◌, ◌-◌, ap, arith, []}
use Rattle.std.specs.Prelude.{◌∷◌}
use Rattle.age_error.specs.declared.io.ErrorKind.TheVariants.{Other}
use Rattle.age_devices.specs.declared.script.Step.TheVariants.{Fail}
use Rattle.age_devices.specs.Devices.{most_of_call}
use Rattle.age_devices.specs.AtCalls.{step_of}
use Rattle.age_devices.proofs.Scripted.{step_there, moves_else}
use Rattle.age_devices.proofs.script.Script.failing_at.Goals as goal

pub returns-then-call-eq0-clause-others : goal.returns-then-call-eq0-clause-others
returns-then-call-eq0-clause-others c i other = c.new.ensures i

pub returns-clause-fails : goal.returns-clause-fails
returns-clause-fails c i is =
    let here : i ≡ c.args.call - 1 = omega (arith, is, c.if-call-eq0.false) in
    ap (λ n. step_of 0 0 (c.args.call - 1) (Fail Other ∷ []) most_of_call n) here ∙ step_there (c.args.call - 1) most_of_call (Fail Other)

pub returns-clause-others : goal.returns-clause-others
returns-clause-others c i other =
    moves_else (c.args.call - 1) i (Fail Other) (λ same. other (omega (arith, same, c.if-call-eq0.false)))
