-- What a seek and a read of one byte say of the byte at a place.
use Rattle.std.specs.Prelude.{◌≡◌, ℕ, IsTrue, true, false, zero, suc, ◌<◌, ◌≤◌, List, [], ◌∷◌, ◌++◌, length, map, take, drop, Option, Some, None, slice_get, slice_index_or, Result, Ok, Err, IfOk}
use Rattle.std.proofs.Common.{◌∙◌, ap, arith, refl, sym, subst, inl}
use Rattle.std.proofs.lemmas.List.{map-append, append-nil, append_assoc}
use Rattle.std.proofs.lemmas.Option.{slice_get_past}
use Rattle.age.specs.Cursor.{sought}
use Rattle.age.specs.Reading.{Delivers}
use Rattle.age.specs.SeekFromVariants.{Start}
use Rattle.age.specs.Stretch.{Stretch, from_place, IsCleanEnd, IsFault}
use Rattle.age.specs.Types.{Error}
use Rattle.age_examples.specs.Looks.{IsLook, IsOneOutside}
use Rattle.age_examples.proofs.Places.{refused_is}

-- the byte at the front of what follows a place
got : (xs : List ℕ) (place byte : ℕ) (more : List ℕ) → drop place xs ≡ byte ∷ more → slice_get xs place ≡ Some byte
got [] zero byte more is = cc
got [] (suc n) byte more is = cc
got (x ∷ xs) zero byte more is = cc
got (x ∷ xs) (suc n) byte more is = got xs n byte more is

-- nothing follows
none : (xs : List ℕ) (place : ℕ) → drop place xs ≡ [] → slice_get xs place ≡ None
none [] place is = refl
none (x ∷ xs) zero is = cc
none (x ∷ xs) (suc n) is = none xs n is

pub looked : (content before after : Stretch) (place count : ℕ) (room : List ℕ) → length room ≡ 1 → count ≤ length room
    → before ≡ from_place place content →
    Delivers (take count room) before after → (count ≡ 0 → 0 < length room → IsCleanEnd before) → IsLook content.bytes place count room
looked content before after place zero room one within at came end =
    none content.bytes place (sym (ap (λ s. s.bytes) at) ∙ (end refl (omega (arith, one))).bytes)
looked content before after place (suc n) [] one within at came end = absurd (omega (arith, one))
looked content before after place (suc zero) (byte ∷ []) one within at came end =
    ap (λ o. o ∷ []) (sym (got content.bytes place byte after.bytes (sym (ap (λ s. s.bytes) at) ∙ came.bytes)))
looked content before after place (suc (suc n)) (byte ∷ []) one within at came end = absurd (omega (arith, within))
looked content before after place (suc n) (byte ∷ other ∷ room) one within at came end = absurd (omega (arith, one))

pub look : {E : Type 0} (content before after : Stretch) (place : ℕ) (room : List ℕ) (result : Result ℕ E) → length room ≡ 1
    → before ≡ from_place place content →
    IfOk result (λ n. n ≤ length room) → IfOk result (λ n. Delivers (take n room) before after)
    → IfOk result (λ n. n ≡ 0 → 0 < length room → IsCleanEnd before) →
    IfOk result (λ n. IsLook content.bytes place n room)
look content before after place room (Ok n) one at within came end = looked content before after place n room one within at came end
look content before after place room (Err e) one at within came end = tt

-- a byte more was found
pub grown : (bytes places rest tail : List ℕ) (place n : ℕ) (before room : List ℕ) → IsLook bytes place n room → (n ≡ 0 → ⊥) → rest ≡ place ∷ tail →
    map (slice_get bytes) places ≡ map Some before ++ map (slice_get bytes) rest →
    map (slice_get bytes) places ≡ map Some (before ++ room) ++ map (slice_get bytes) tail
grown bytes places rest tail place zero before room look some front all = absurd (some refl)
grown bytes places rest tail place (suc n) before room look some front all =
    all ∙ ap (λ r. map Some before ++ map (slice_get bytes) r) front
    ∙ sym (append_assoc (map Some before) (slice_get bytes place ∷ []) (map (slice_get bytes) tail))
    ∙ ap (λ xs. map Some before ++ xs ++ map (slice_get bytes) tail) (sym look)
    ∙ ap (λ xs. xs ++ map (slice_get bytes) tail) (sym (map-append Some before room))

-- nothing came
pub behind : (bytes rest tail : List ℕ) (place n : ℕ) (room : List ℕ) → IsLook bytes place n room → n ≡ 0 → rest ≡ place ∷ tail
    → IsOneOutside bytes rest
behind bytes rest tail place zero room look none front = subst (IsOneOutside bytes) (sym front) (inl look)
behind bytes rest tail place (suc n) room look none front = absurd (omega (arith, none))

-- no place is left
pub ended : (bytes places rest before : List ℕ) → length rest ≡ 0 → map (slice_get bytes) places ≡ map Some before ++ map (slice_get bytes) rest →
    map (slice_get bytes) places ≡ map Some before
ended bytes places [] before none all = all ∙ append-nil (map Some before)
ended bytes places (place ∷ rest) before none all = absurd (omega (arith, none))

-- the byte that a look found
pub found : (bytes : List ℕ) (place n : ℕ) (room : List ℕ) → IsLook bytes place n room → (n ≡ 0 → ⊥) → length room ≡ 1
    → slice_get bytes place ≡ Some (slice_index_or room 0 0)
found bytes place zero room look some one = absurd (some refl)
found bytes place (suc n) [] look some one = absurd (omega (arith, one))
found bytes place (suc n) (byte ∷ []) look some one = same (slice_get bytes place) (Some byte) (sym look)
  where
    same : (a b : Option ℕ) → a ∷ [] ≡ b ∷ [] → a ≡ b
    same a b is = cc
found bytes place (suc n) (byte ∷ other ∷ room) look some one = absurd (omega (arith, one))

-- there is none
pub missing : (bytes : List ℕ) (place n : ℕ) (room : List ℕ) → IsLook bytes place n room → n ≡ 0 → slice_get bytes place ≡ None
missing bytes place zero room look none = look
missing bytes place (suc n) room look none = absurd (omega (arith, none))

-- a seek that is refused was to a place that has no byte
pub refused : (bytes : List ℕ) (place : ℕ) (e : Error) → sought (Start place) 0 (length bytes) ≡ Err e → slice_get bytes place ≡ None
refused bytes place e is =
    let past = (refused_is place (length bytes) e is).1 in
    slice_get_past bytes place (omega (arith, past))

-- and what ends well has no fault at any place
pub sound : (content rest : Stretch) (place : ℕ) → IsTrue content.ends_well → rest ≡ from_place place content → IsFault rest → ⊥
sound content rest place well at fault =
    let same : rest.ends_well ≡ content.ends_well = ap (λ s. s.ends_well) at in
    differ (sym well ∙ sym same ∙ fault.ends_badly)
  where
    differ : true ≡ false → ⊥
    differ is = absurd (cc)
