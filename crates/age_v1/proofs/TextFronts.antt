-- How long a text is that was taken off the front, over plain variables: `omega` takes seconds each time that it meets a text
-- cut at a large numeral.
use Rattle.std.specs.Prelude.{ℕ, ◌+◌, ◌<◌, ◌≤◌, List, length, take, drop}
use Rattle.std.proofs.Common.{arith, length-take, length-drop}

pub text-most : (size : ℕ) (xs : List ℕ) → length (take size xs) ≤ size
text-most size xs = omega (arith, length-take size xs)

-- a text that isn't full is all there is
pub text-all : (size : ℕ) (xs : List ℕ) → length (take size xs) < size → length xs ≤ size
text-all size xs less = omega (arith, length-take size xs, less)

-- no more than a text is left
pub text-left : (size front : ℕ) (xs : List ℕ) → length xs ≤ front + size → length (drop front xs) ≤ size
text-left size front xs few = omega (arith, length-drop front xs, few)
