-- The table of scryptROMix and the walk over it: one step more.
use Rattle.std.proofs.Common.{◌≡◌, ℕ, zero, suc, ◌+◌, ◌%◌, ◌<◌, List, [], ◌∷◌, ◌++◌, length, get_or, refl, ap, ap₂, ◌∙◌, arith, add-one, below_more}
use Rattle.std.proofs.lemmas.List.{get_or_at}
use Rattle.std.proofs.Math.ListN.{get_or-append}
use Rattle.scrypt.specs.BlockMix.{block_mix}
use Rattle.scrypt.specs.RomMix.{blocks_xor, integerify, table_entry, walked}

-- the entry at a place of a table, whatever is given for a place outside
pub same_entry : (entries : List (List (List ℕ))) (k : ℕ) (d e : List (List ℕ)) → k < length entries → get_or entries k d ≡ get_or entries k e
same_entry [] k d e h = absurd (omega arith)
same_entry (x ∷ entries) zero d e h = refl
same_entry (x ∷ entries) (suc k) d e h = same_entry entries k d e (omega arith)

-- an entry more
pub entries_more : (b x : List (List ℕ)) (entries more : List (List (List ℕ))) (i : ℕ) → length entries ≡ i
    → ((k : ℕ) → k < i → get_or entries k [] ≡ table_entry b k) → x ≡ table_entry b i → more ≡ entries ++ x ∷ []
    → (k : ℕ) → k < i + 1 → get_or more k [] ≡ table_entry b k
entries_more b x entries more i long held next is = below_more _ _
    (λ k h. let inside : k < length entries = omega arith in
    ap (λ l. get_or l k []) is ∙ get_or-append entries (x ∷ []) [] k inside ∙ held k h)
    (ap (λ l. get_or l i []) is ∙ get_or_at entries x [] [] i long ∙ next)

-- a step more of the second loop
pub walked_more : (b x entry mixed : List (List ℕ)) (n i : ℕ) → x ≡ walked b n i → entry ≡ table_entry b (integerify x % n)
    → mixed ≡ block_mix (blocks_xor x entry) → mixed ≡ walked b n (i + 1)
unfolding walked
walked_more b x entry mixed n i held is at_last =
    rw add-one (at_last ∙ ap₂ (λ u v. block_mix (blocks_xor u v)) held (is ∙ ap (λ u. table_entry b (integerify u % n)) held))
