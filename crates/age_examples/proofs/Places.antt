-- Seeks from the front, and the part that is read there.
use Rattle.std.specs.Prelude.{◌≡◌, ◌≢◌, ◌⊎◌, ℕ, ◌<◌, Bool, true, false, List, length, take, drop, nat_le, Result, Ok, Err, if◌then◌else◌}
use Rattle.std.proofs.Common.{refl, inl, inr}
use Rattle.std.proofs.lemmas.Bool.{leb-false}
use Rattle.age.specs.Types.{Error, SeekFrom}
use Rattle.age.specs.ErrorVariants.{OutOfMemory, PastEnd}
use Rattle.age.specs.Stretch.{Stretch, whole}
use Rattle.age.specs.Cursor.{sought}
use Rattle.age.specs.SeekFromVariants.{Start}

start_by : (within : Bool) (place start : ℕ) → ◌≡◌ {A = Result ℕ Error} (if within then Ok place else Err PastEnd) (Ok start) → start ≡ place
start_by true place start same = Prim.cc
start_by false place start same = absurd (Prim.cc)

-- it leads where it says
pub start_is : (place len start : ℕ) → sought (Start place) 0 len ≡ Ok start → start ≡ place
start_is place len start same = start_by (nat_le place len) place start same

refused_by : (within : Bool) (place : ℕ) (e : Error) → ◌≡◌ {A = Result ℕ Error} (if within then Ok place else Err PastEnd) (Err e)
    → (within ≡ false) × (e ≡ PastEnd)
refused_by true place e same = absurd (Prim.cc)
refused_by false place e same = (refl, Prim.cc)

-- and is refused past the end alone
pub refused_is : (place len : ℕ) (e : Error) → sought (Start place) 0 len ≡ Err e → (e ≡ PastEnd) × (len < place)
refused_is place len e same =
    let (past, is) = refused_by (nat_le place len) place e same in
    (is, leb-false place len past)

-- of a reader that stands before a plaintext
from_front : (to : SeekFrom) (place : ℕ) (content : Stretch) (plain : List ℕ) (answer : Result ℕ Error) → place ≡ 0 → content ≡ whole plain
    → sought to place (length content.bytes) ≡ answer → sought to 0 (length plain) ≡ answer
from_front to place content plain answer first is same = rw (first, is) at same

same_part : (n m start place : ℕ) (content : Stretch) (plain : List ℕ) → n ≡ m → start ≡ place → content ≡ whole plain
    → take n (drop start content.bytes) ≡ take m (drop place plain)
same_part n m start place content plain size leads is = rw (size, leads, is) refl

-- what is read is the part
pub part_is : (target n count stood start : ℕ) (content : Stretch) (plain : List ℕ) → n ≡ count → stood ≡ 0 → content ≡ whole plain
    → sought (Start target) stood (length content.bytes) ≡ Ok start → take n (drop start content.bytes) ≡ take count (drop target plain)
part_is target n count stood start content plain size first is leads =
    same_part n count start target content plain size
    (start_is target (length plain) start (from_front (Start target) stood content plain (Ok start) first is leads)) is

want_or_past : (e : Error) (place len : ℕ) → (e ≢ OutOfMemory → sought (Start place) 0 len ≡ Err e)
    → (e ≡ OutOfMemory) ⊎ ((e ≡ PastEnd) × (len < place))
want_or_past OutOfMemory place len refused = inl refl
want_or_past _ place len refused = inr (refused_is place len _ (refused (λ same. Prim.cc)))

-- and a refusal is want of memory, or the place is past the end
pub refusal_is : (e : Error) (target stood : ℕ) (content : Stretch) (plain : List ℕ) → stood ≡ 0 → content ≡ whole plain
    → (e ≢ OutOfMemory → sought (Start target) stood (length content.bytes) ≡ Err e) → (e ≡ OutOfMemory) ⊎ ((e ≡ PastEnd) × (length plain < target))
refusal_is e target stood content plain first is refused =
    want_or_past e target (length plain) (λ other. from_front (Start target) stood content plain (Err e) first is (refused other))
