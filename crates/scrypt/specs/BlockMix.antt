-- The scryptBlockMix algorithm (RFC 7914, 4) with a block size parameter r of 8: B is a list of 2 * r = 16 blocks.
use Rattle.std.specs.Prelude.{ℕ, zero, suc, ◌+◌, ◌*◌, List, [], ◌∷◌, ◌++◌, bit_xor, slice_index_or}
use Rattle.std.specs.Simd.Lanes.{zip2}
use Rattle.scrypt.specs.Salsa.{salsa20_8}

-- X xor B[i]: two blocks combined word by word
abbrev pub block_xor : List ℕ → List ℕ → List ℕ
block_xor = zip2 bit_xor

-- B[i]
abbrev pub block_at : List (List ℕ) → ℕ → List ℕ
block_at b i = slice_index_or b i []

-- X before step i of the loop. It begins as B[2 * r - 1], and a step makes it the hash of X xor B[i]
unfoldable pub chained : List (List ℕ) → ℕ → List ℕ
chained b zero = block_at b 15
chained b (suc i) = salsa20_8 (block_xor (chained b i) (block_at b i))

-- Y[i]: X after step i
abbrev pub hash_at : List (List ℕ) → ℕ → List ℕ
hash_at b i = chained b (i + 1)

-- Y[0], Y[2], ..: the first `count` of those with an even number
unfoldable pub even_hashes : List (List ℕ) → ℕ → List (List ℕ)
even_hashes b zero = []
even_hashes b (suc count) = even_hashes b count ++ hash_at b (2 * count) ∷ []

-- Y[1], Y[3], ..: the first `count` of those with an odd number
unfoldable pub odd_hashes : List (List ℕ) → ℕ → List (List ℕ)
odd_hashes b zero = []
odd_hashes b (suc count) = odd_hashes b count ++ hash_at b (2 * count + 1) ∷ []

-- B': (Y[0], Y[2], .., Y[2 * r - 2], Y[1], Y[3], .., Y[2 * r - 1])
unfoldable pub block_mix : List (List ℕ) → List (List ℕ)
block_mix b = even_hashes b 8 ++ odd_hashes b 8
