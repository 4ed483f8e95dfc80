-- A secret that all random bytes are which were asked for, and what is written of it.
use Rattle.std.specs.Prelude.{if◌then◌else◌, nat_le, Option, Some, None}
use Rattle.std.proofs.Common.{◌≡◌, ◌∙◌, drop, ℕ, Bool, true, false, List, [], ◌++◌, length, take, sym, subst, arith}
use Rattle.std.proofs.lemmas.List.{append-nil, take-append-drop, take_all}
use Rattle.age.specs.Draw.{taken}
use Rattle.age.specs.Copying.{AppendsFront}

some_same : (x y : List ℕ) → Path (Option (List ℕ)) (Some x) (Some y) → x ≡ y
some_same x y is = cc

taken_by : (enough : Bool) (n : ℕ) (draws bytes : List ℕ) → Path (Option (List ℕ)) (if enough then Some (take n draws) else None) (Some bytes)
    → bytes ≡ take n draws
taken_by true n draws bytes is = sym (some_same _ _ is)
taken_by false n draws bytes is = absurd (Prim.cc)

-- so many bytes taken of so many are all of them
pub all_taken : (n : ℕ) (draws bytes : List ℕ) → taken n draws ≡ Some bytes → length draws ≡ n → bytes ≡ draws
all_taken n draws bytes is long = taken_by (nat_le n (length draws)) n draws bytes is ∙ take_all n draws (omega (arith, long))

module _ {W : Type 0} (appended : W → List ℕ → W → Type 0) where
  -- a beginning of a text
  pub front_of : (n : ℕ) (text known : List ℕ) (old new : W) → text ≡ known → appended old (take n text) new → AppendsFront appended known old new
  front_of n text known old new is out =
      record { front = take n text; after = drop n text; joined = sym is ∙ sym (take-append-drop n text); out = out }

  -- and all of it
  pub all_of : (text known : List ℕ) (old new : W) → text ≡ known → appended old text new → AppendsFront appended known old new
  all_of text known old new is out = record { front = text; after = []; joined = sym is ∙ sym (append-nil text); out = out }

  -- bytes appended and then none
  pub then_none : ((a b c : W) (x y : List ℕ) → appended a x b → appended b y c → appended a (x ++ y) c)
      → (text known : List ℕ) (old between new : W) → text ≡ known
      → appended old text between → appended between [] new → appended old known new
  then_none joins text known old between new is out none =
      subst (λ l. appended old l new) (append-nil text ∙ is) (joins old between new text [] out none)
