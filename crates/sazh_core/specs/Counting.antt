-- How many bytes went by.
use Rattle.std.specs.Prelude.{◌≡◌, ℕ, ◌+◌, ◌^◌, ◌≤◌, List, [], ◌++◌, length}
use Rattle.std.proofs.Common.{arith}
use Rattle.std.proofs.lemmas.List.{length-append}
use Rattle.age.specs.ErrorVariants.{TooLong}
use Rattle.age.specs.Types.{Error}
use Rattle.sazh_core.specs.declared.counting.Counting.{Counting}

-- the second state is the first that was given these bytes besides
abbrev pub CountedBytes : Counting → List ℕ → Counting → Type 0
CountedBytes old bytes new = new.count ≡ old.count + length bytes

-- so many bytes are refused that the count with them is 2^64 or more
abbrev pub CountsTooMany : Counting → ℕ → Error → Type 0
CountsTooMany writer size e = (e ≡ TooLong) × (2 ^ 64 ≤ writer.count + size)

pub counted_nothing : (w : Counting) → CountedBytes w [] w
counted_nothing w = Prim.omega arith

pub counted_joined : (a b c : Counting) (x y : List ℕ) → CountedBytes a x b → CountedBytes b y c → CountedBytes a (x ++ y) c
counted_joined a b c x y first second = Prim.omega (arith, first, second, length-append x y)

pub refuses_more_of_them : (w : Counting) (m n : ℕ) (e : Error) → m ≤ n → CountsTooMany w m e → CountsTooMany w n e
refuses_more_of_them w m n e more (is, long) = (is, Prim.omega (arith, more, long))
