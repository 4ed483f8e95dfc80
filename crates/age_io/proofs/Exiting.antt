-- What holds of an answer, whatever it is, and at an exit by an error.
use Rattle.std.specs.Prelude.{Result, Ok, Err, IsErr, IfErr, OnOk}
use Rattle.std.proofs.lemmas.Result.{IfOk-from_err}

-- a clause on a success says nothing of it
pub OnOk-refused : {T E : Type 0} (r : Result T E) (P : Type 0) → IsErr r → OnOk r P
OnOk-refused r P is = IfOk-from_err r (λ _. P) is

-- what holds anyhow holds of a success
pub OnOk-of : {T E : Type 0} (r : Result T E) {P : Type 0} → P → OnOk r P
OnOk-of (Ok x) h = h
OnOk-of (Err e) h = tt

-- and what holds of each error holds of a refusal
pub IfErr-of : {T E : Type 0} (r : Result T E) {P : E → Type 0} → ((e : E) → P e) → IfErr r P
IfErr-of (Ok x) h = tt
IfErr-of (Err e) h = h e
