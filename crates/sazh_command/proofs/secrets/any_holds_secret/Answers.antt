use Rattle.std.specs.Prelude.{map, string_bytes, refl}
use Rattle.std.proofs.Common.{inl, sym, subst}
use Rattle.sazh_command.specs.Secrets.{AnyHoldsSecret, HoldsSecret}
use Rattle.sazh_command.proofs.secrets.any_holds_secret.Goals as goal

pub returns-then-holds_secret : goal.returns-then-holds_secret
returns-then-holds_secret c =
    let held : HoldsSecret (string_bytes c.in-Some.word.now) = subst HoldsSecret c.as_str.ensures.value (c.if-holds_secret.ensures.0 refl) in
    (λ _. c.all.invariant.1 (subst (λ l. AnyHoldsSecret (map string_bytes l)) (sym c.in-Some.ensures.cases.0) (inl held)), λ _. refl)
