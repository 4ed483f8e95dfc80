-- Lines of a text: ended by a line feed, and lists cut in pieces of one length. Under "standard" stands what
-- age-encryption.org/v1 asks, in our words.
use Rattle.std.specs.Prelude.{◌≢◌, ℕ, zero, suc, List, [], ◌∷◌, ◌++◌, take, drop}
use Rattle.std.specs.List.{AllByRecursion}

-- the bytes, then a line feed
-- standard: a line of a header ends with one LF, never with CR LF
abbrev pub line : List ℕ → List ℕ
line bytes = bytes ++ 10 ∷ []

-- `count` parts of n items, then one part of what is left, which may be empty
unfoldable pub pieces_and_rest : ℕ → ℕ → List ℕ → List (List ℕ)
pieces_and_rest zero n xs = xs ∷ []
pieces_and_rest (suc count) n xs = take n xs ∷ pieces_and_rest count n (drop n xs)

-- no element is c
abbrev pub Lacks : ℕ → List ℕ → Type 0
Lacks c xs = AllByRecursion (λ d. d ≢ c) xs
