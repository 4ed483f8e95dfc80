-- What is known of `Changes`, for whoever calls the value in a box.
use Rattle.std.specs.Prelude.{◌≡◌, refl}
use Rattle.std.proofs.Common.{sym, subst}
use Rattle.std.specs.declared.dyn_box.DynBox.{DynBox}
use Rattle.std.specs.DynBox.{dyn_box_with}
use Rattle.age_format.specs.Boxed.{Changes}

pub changes_at : {X Z : Type 0} {F : X → Type 0} (R : (i : X) → F i → F i → Type 0) (b : DynBox X Z F) (i : X) (x y : F i)
    → ◌≡◌ {A = (k : X) × F k} (i, x) (b.vtable, b.value) → R i x y → Changes b (R b.vtable) (dyn_box_with b i y)
changes_at {X} {Z} {F} R b i x y same r =
    let P : ((k : X) × F k) → Type 0 = λ q. (w : F q.0) → R q.0 q.1 w → Changes b (R b.vtable) (dyn_box_with b q.0 w) in
    subst P (sym same) (λ w s. (w, refl, s)) y r
