-- The hashes of scryptBlockMix: one step more, and both halves of them.
use Rattle.std.proofs.Common.{◌≡◌, ℕ, ◌+◌, ◌*◌, ◌<◌, List, ◌++◌, length, take, drop, set, refl, sym, ap, ap₂, ◌∙◌, arith, add-one, length-drop}
use Rattle.std.proofs.lemmas.List.{take_all, take-append-drop, take_more_set, take-set-le, drop-set-lt, drop-set-add}
use Rattle.scrypt.specs.Salsa.{salsa20_8}
use Rattle.scrypt.specs.BlockMix.{block_xor, block_at, chained, hash_at, even_hashes, odd_hashes, block_mix}

-- the chain after one step more
pub chained_more : (b : List (List ℕ)) (x hash : List ℕ) (i : ℕ) → x ≡ chained b i → hash ≡ salsa20_8 (block_xor x (block_at b i))
    → hash ≡ chained b (i + 1)
unfolding chained
chained_more b x hash i held is = rw (add-one, ← held) is

-- a pair of hashes more, each behind those of its half
pub evens_more : (b mixed : List (List ℕ)) (even odd : List ℕ) (i : ℕ) → i < 8 → length mixed ≡ 16 → take i mixed ≡ even_hashes b i
    → even ≡ hash_at b (2 * i) → take (i + 1) (set (set mixed i even) (8 + i) odd) ≡ even_hashes b (i + 1)
unfolding even_hashes
evens_more b mixed even odd i below long held is =
    take-set-le (i + 1) (set mixed i even) (8 + i) odd (omega arith)
    ∙ take_more_set mixed i even (omega arith)
    ∙ rw (add-one, held, is) refl

pub odds_more : (b mixed : List (List ℕ)) (even odd : List ℕ) (i : ℕ) → i < 8 → length mixed ≡ 16 → take i (drop 8 mixed) ≡ odd_hashes b i
    → odd ≡ hash_at b (2 * i + 1) → take (i + 1) (drop 8 (set (set mixed i even) (8 + i) odd)) ≡ odd_hashes b (i + 1)
unfolding odd_hashes
odds_more b mixed even odd i below long held is =
    let half = length-drop 8 mixed in
    ap (take (i + 1)) (drop-set-add 8 (set mixed i even) i odd ∙ ap (λ xs. set xs i odd) (drop-set-lt 8 mixed i even below))
    ∙ take_more_set (drop 8 mixed) i odd (omega (arith, half))
    ∙ rw (add-one, held, is) refl

-- both halves of all hashes
pub mixed_whole : (b mixed : List (List ℕ)) (i : ℕ) → i ≡ 8 → length mixed ≡ 16 → take i mixed ≡ even_hashes b i
    → take i (drop 8 mixed) ≡ odd_hashes b i → mixed ≡ block_mix b
unfolding block_mix
mixed_whole b mixed i all long even odd =
    let half = length-drop 8 mixed in
    let low : take 8 mixed ≡ even_hashes b 8 = rw all at even in
    let high : take 8 (drop 8 mixed) ≡ odd_hashes b 8 = rw all at odd in
    sym (take-append-drop 8 mixed)
    ∙ ap₂ (λ xs ys. xs ++ ys) low (sym (take_all 8 (drop 8 mixed) (omega (arith, half))) ∙ high)
