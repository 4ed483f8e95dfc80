use Rattle.std.specs.Prelude.{map, refl}
use Rattle.std.proofs.Common.{inl, sym, subst}
use Rattle.sazh_command.specs.Asked.{recipient_value}
use Rattle.sazh_command.specs.Secrets.{AnyFileHoldsSecret}
use Rattle.sazh_command.proofs.secrets.any_file_holds_secret.Goals as goal

pub returns-then-file_holds_secret : goal.returns-then-file_holds_secret
returns-then-file_holds_secret c =
    let held = c.if-file_holds_secret.ensures.0 refl in
    (λ _. c.all.invariant.1 (subst (λ l. AnyFileHoldsSecret (map recipient_value l)) (sym c.in-Some.ensures.cases.0) (inl held)), λ _. refl)
