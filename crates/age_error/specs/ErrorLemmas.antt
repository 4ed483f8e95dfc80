-- What holds of an error holds of the result that is that error.
use Rattle.std.specs.Prelude.{◌≡◌, Result, Ok, Err, IfErr, IsErrAnd}
use Rattle.std.proofs.Common.{sym, subst}

pub of_error : {T E : Type 0} (Holds : E → Type 0) (result : Result T E) (e : E) → IsErrAnd result (λ x. x ≡ e) → Holds e → IfErr result Holds
of_error Holds (Ok x) e is h = absurd is
of_error Holds (Err x) e is h = subst Holds (sym is) h
