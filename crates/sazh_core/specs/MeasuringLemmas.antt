-- What a writer is that measures.
use Rattle.std.specs.Prelude.{ℕ, ◌≤◌, List, ◌++◌, []}
use Rattle.std.proofs.Common.{arith, subst, sym}
use Rattle.std.proofs.lemmas.List.{append-nil, append_assoc}
use Rattle.age.specs.Types.{Error}
use Rattle.sazh_core.specs.Measuring.{RefusesMeasured, TookBytes, WasGiven}
use Rattle.sazh_core.specs.declared.measuring.Measuring.{Measuring}

pub took_nothing : (w : Measuring) → TookBytes w [] w
took_nothing w = λ text given. subst (λ l. WasGiven w l) (sym (append-nil text)) given

pub took_joined : (a b c : Measuring) (x y : List ℕ) → TookBytes a x b → TookBytes b y c → TookBytes a (x ++ y) c
took_joined a b c x y first second = λ text given. subst (λ l. WasGiven c l) (append_assoc text x y) (second (text ++ x) (first text given))

pub refuses_more_measured : (w : Measuring) (m n : ℕ) (e : Error) → m ≤ n → RefusesMeasured w m e → RefusesMeasured w n e
refuses_more_measured w m n e more (is, long) = (is, Prim.omega (arith, more, long))
