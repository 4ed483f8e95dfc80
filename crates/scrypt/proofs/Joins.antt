-- Items written one after another: the bytes of one item more.
use Rattle.std.proofs.Common.{◌≡◌, ℕ, ◌+◌, ◌<◌, ◌≤◌, List, [], ◌∷◌, ◌++◌, length, take, get_or, refl, ap, arith, ◌∙◌}
use Rattle.std.proofs.lemmas.List.{take_more, append-nil}
use Rattle.std.proofs.lemmas.Grind.{flat_map-append}
use Rattle.std.proofs.lemmas.Slice.{take-put_mid}
use Rattle.std.specs.List.{flat_map}
use borrow.Rule.Slice.PartMut.{put_mid}

-- `size` bytes more at place `start`, behind the `front` that is there
pub joined_more : (bytes front back : List ℕ) (start size k : ℕ) → take start bytes ≡ front → start ≤ length bytes → length back ≡ size
    → take (start + size) (put_mid start k bytes back) ≡ front ++ back
joined_more bytes front back start size k held fits long =
    let all : take (start + size) (put_mid start k bytes back) ≡ take start bytes ++ back
    = take-put_mid start k bytes back (start + size) (omega arith) fits in
    rw (all, held) refl

-- the bytes of item i, behind those of the items before it
pub flat_map_more : {A : Type 0} (f : A → List ℕ) (d : A) (items : List A) (bytes back : List ℕ) (i start size next k : ℕ) → i < length items
    → take start bytes ≡ flat_map f (take i items) → start ≤ length bytes → length back ≡ size → back ≡ f (get_or items i d) → next ≡ start + size
    → take next (put_mid start k bytes back) ≡ flat_map f (take (i + 1) items)
flat_map_more f d items bytes back i start size next k below held fits long is at_next =
    let more : flat_map f (take (i + 1) items) ≡ flat_map f (take i items) ++ f (get_or items i d)
    = ap (flat_map f) (take_more items i d below) ∙ flat_map-append f (take i items) (get_or items i d ∷ []) ∙ rw append-nil refl in
    rw (at_next, more, ← is) (joined_more bytes (flat_map f (take i items)) back start size k held fits long)
