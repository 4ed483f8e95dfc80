-- What an outcome of an encryption was.
use Rattle.std.specs.Prelude.{◌≡◌, List, ℕ, Result, Ok, Err}
use Rattle.std.proofs.Common.{sym, inl, inr}
use Rattle.age_error.specs.EncryptErrors.{EncryptRefusal, OutOfMemory}
use Rattle.age_v1.specs.Encrypting.{Ends, After}

-- two equal values
pub same_value : {A : Type 0} (x y : A) → Path (Result A EncryptRefusal) (Ok x) (Ok y) → x ≡ y
same_value x y is = cc

-- two equal refusals
pub same_refusal : {A : Type 0} (e f : EncryptRefusal) → Path (Result A EncryptRefusal) (Err e) (Err f) → e ≡ f
same_refusal e f is = cc

-- a value is no refusal
pub no_refusal : {A X : Type 0} (x : A) (e : EncryptRefusal) → Path (Result A EncryptRefusal) (Ok x) (Err e) → X
no_refusal x e is = absurd (Prim.cc)

-- a value that came where one was due is that one
pub was_due : {A : Type 0} (due : Result A EncryptRefusal) (draws left : List ℕ) (x : A) → After due (λ y. Ends (Ok y)) draws (Ok x) left → due ≡ Ok x
was_due (Err e) draws left x ended = no_refusal x e ended.0
was_due (Ok y) draws left x (inl ended) = sym ended.0
was_due (Ok y) draws left x (inr want) = no_refusal x OutOfMemory want.0
