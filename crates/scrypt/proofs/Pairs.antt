-- Two lists combined place by place: one place more.
use Rattle.std.proofs.Common.{◌≡◌, ℕ, ◌+◌, ◌<◌, List, [], ◌∷◌, ◌++◌, length, take, drop, set, get_or, refl, ◌∙◌, arith}
use Rattle.std.proofs.lemmas.List.{length-take-le, drop_more, take_more, get_or_at, set_at, append_assoc, take_all, drop_all, append-nil}
use Rattle.std.proofs.lemmas.Simd.{length-zip2}
use Rattle.std.specs.Simd.Lanes.{zip2}

zip2-push : {A : Type 0} (f : A → A → A) (xs ys : List A) (x y : A) → length xs ≡ length ys
    → zip2 f (xs ++ x ∷ []) (ys ++ y ∷ []) ≡ zip2 f xs ys ++ f x y ∷ []
zip2-push f [] [] x y e = refl
zip2-push f [] (b ∷ ys) x y e = absurd (omega arith)
zip2-push f (a ∷ xs) [] x y e = absurd (omega arith)
zip2-push f (a ∷ xs) (b ∷ ys) x y e = rw (zip2-push f xs ys x y (omega arith)) refl

-- where the first i places are combined, place i too
pub zip2_more : {A : Type 0} (f : A → A → A) (d : A) (xs ys zs : List A) (i : ℕ) → length xs ≡ length ys → i < length xs
    → zs ≡ zip2 f (take i xs) (take i ys) ++ drop i xs
    → set zs i (f (get_or zs i d) (get_or ys i d)) ≡ zip2 f (take (i + 1) xs) (take (i + 1) ys) ++ drop (i + 1) xs
zip2_more f d xs ys zs i len h e =
    let x = get_or xs i d in
    let y = get_or ys i d in
    let done = zip2 f (take i xs) (take i ys) in
    let rest = drop (i + 1) xs in
    let n : length (take i xs) ≡ i = length-take-le i xs (omega arith) in
    let m : length (take i ys) ≡ i = length-take-le i ys (omega arith) in
    let before : length done ≡ i = length-zip2 f (take i xs) (take i ys) (omega arith) ∙ n in
    let k : i < length ys = omega arith in
    let now : zs ≡ done ++ x ∷ rest = rw (← drop_more xs i d h) e in
    let next : zip2 f (take (i + 1) xs) (take (i + 1) ys) ≡ done ++ f x y ∷ [] =
    rw (take_more xs i d h, take_more ys i d k) (zip2-push f (take i xs) (take i ys) x y (omega arith)) in
    rw (now, next, get_or_at done x rest d i before, set_at done x rest (f x y) i before, append_assoc) refl

-- where all places are combined
pub zip2_whole : {A : Type 0} (f : A → A → A) (xs ys zs : List A) (i : ℕ) → length xs ≡ i → length ys ≡ i
    → zs ≡ zip2 f (take i xs) (take i ys) ++ drop i xs → zs ≡ zip2 f xs ys
zip2_whole f xs ys zs i len' len e =
    let all = take_all i xs (omega arith) in
    let both = take_all i ys (omega arith) in
    let rest = drop_all i xs (omega arith) in
    rw (all, both, rest, append-nil) at e
