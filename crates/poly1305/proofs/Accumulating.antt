-- The accumulator over a text that grows.
use Rattle.std.proofs.Common.{◌≡◌, ℕ, zero, suc, ◌+◌, ◌*◌, ◌/◌, ◌%◌, ◌^◌, ◌<◌, ◌≤◌, ◌≢◌, List, [], ◌++◌, length, take, drop, refl, sym, ap, ◌∙◌, arith, length-append, length-drop, take-add}
use Rattle.std.proofs.lemmas.List.{append-nil, take-append-le, drop-append-le, take_all, drop_all}
use Rattle.std.proofs.lemmas.Nat.{mul-mod_first}
use Rattle.std.proofs.Math.Nat.{mod-add-mod, mod-mod}
use borrow.Rule.Slice.PartMut.{put_mid}
use Rattle.poly1305.specs.Mac.{accumulated, block_count, block_number, prime, text_block}

-- what is left of a text after its whole blocks
abbrev pub rest : List ℕ → List ℕ
rest text = drop (16 * (length text / 16)) text

pub length-rest : (text : List ℕ) → length (rest text) ≡ length text % 16
length-rest text = length-drop (16 * (length text / 16)) text ∙ omega arith

-- a text of whole blocks leaves nothing
pub rest_of_whole : (text : List ℕ) → length text % 16 ≡ 0 → rest text ≡ []
rest_of_whole text whole = drop_all (16 * (length text / 16)) text (omega arith)

-- the whole blocks of a text stay when it grows
text_block_stays : (i : ℕ) (text more : List ℕ) → 16 * i + 16 ≤ length text → text_block i (text ++ more) ≡ text_block i text
unfolding text_block
text_block_stays i text more fits =
    let before : 16 * i ≤ length text = omega arith in
    let enough : 16 ≤ length (drop (16 * i) text) = rw length-drop (omega arith) in
    rw (drop-append-le, take-append-le) refl

pub accumulated_stays : (r : ℕ) (text more : List ℕ) (count : ℕ) → 16 * count ≤ length text
    → accumulated r (text ++ more) count ≡ accumulated r text count
unfolding accumulated
accumulated_stays r text more zero fits = refl
accumulated_stays r text more (suc count) fits =
    let before = accumulated_stays r text more count (omega arith) in
    let last = text_block_stays count text more (omega arith) in
    rw (before, last) refl

-- the text grows, and its last block isn't filled
pub rest_more : (text more : List ℕ) → length text % 16 + length more < 16 → rest text ++ more ≡ rest (text ++ more)
rest_more text more fits =
    let count : length (text ++ more) / 16 ≡ length text / 16 = omega (arith, length-append text more) in
    let before : 16 * (length text / 16) ≤ length text = omega arith in
    rw (count, drop-append-le) refl

pub count_more : (text more : List ℕ) → length text % 16 + length more < 16 → length text % 16 + length more ≡ length (text ++ more) % 16
count_more text more fits = omega (arith, length-append text more)

pub accumulated_more : (r : ℕ) (text more : List ℕ) → length text % 16 + length more < 16
    → accumulated r text (length text / 16) ≡ accumulated r (text ++ more) (length (text ++ more) / 16)
accumulated_more r text more fits =
    let count : length (text ++ more) / 16 ≡ length text / 16 = omega (arith, length-append text more) in
    rw (count, accumulated_stays r text more (length text / 16) (omega arith)) refl

-- the text grows, and its last block is filled
module _ (text more : List ℕ) where
  last_block : length text % 16 + length more ≡ 16 → text_block (length text / 16) (text ++ more) ≡ rest text ++ more
  unfolding text_block
  last_block fills =
      let before : 16 * (length text / 16) ≤ length text = omega arith in
      let size : length (rest text ++ more) ≤ 16 = rw (length-append, length-rest) (omega arith) in
      rw drop-append-le (take_all 16 (rest text ++ more) size)

  pub accumulated_filled : (r : ℕ) → length text % 16 + length more ≡ 16
      → accumulated r (text ++ more) (length (text ++ more) / 16)
      ≡ ((accumulated r text (length text / 16) + block_number (rest text ++ more)) * r) % prime
  unfolding accumulated
  accumulated_filled r fills =
      let count : length (text ++ more) / 16 ≡ suc (length text / 16) = omega (arith, length-append text more) in
      let before = accumulated_stays r text more (length text / 16) (omega arith) in
      rw (count, before, last_block fills) refl

  pub count_filled : length text % 16 + length more ≡ 16 → 0 ≡ length (text ++ more) % 16
  count_filled fills = omega (arith, length-append text more)

  pub rest_filled : length text % 16 + length more ≡ 16 → [] ≡ rest (text ++ more)
  rest_filled fills = sym (rest_of_whole (text ++ more) (sym (count_filled fills)))

-- a whole block more, where none is begun
pub accumulated_whole : (r : ℕ) (text block : List ℕ) → length text % 16 ≡ 0 → length block ≡ 16
    → accumulated r (text ++ block) (length (text ++ block) / 16) ≡ ((accumulated r text (length text / 16) + block_number block) * r) % prime
accumulated_whole r text block whole size =
    accumulated_filled text block r (omega (arith, whole, size))
    ∙ ap (λ rest. ((accumulated r text (length text / 16) + block_number (rest ++ block)) * r) % prime) (rest_of_whole text whole)

-- an accumulator is below the prime
pub accumulated-mod : (r : ℕ) (text : List ℕ) (count : ℕ) → accumulated r text count % prime ≡ accumulated r text count
unfolding accumulated
accumulated-mod r text zero = refl
accumulated-mod r text (suc count) = mod-mod ((accumulated r text count + block_number (text_block count text)) * r) prime

-- the last block, where it isn't whole
pub accumulated_last : (r : ℕ) (text : List ℕ) → length text % 16 ≢ 0
    → accumulated r text (block_count text) ≡ ((accumulated r text (length text / 16) + block_number (rest text)) * r) % prime
unfolding accumulated text_block
accumulated_last r text short =
    let count : block_count text ≡ suc (length text / 16) = omega arith in
    let size : length (rest text) ≤ 16 = rw length-rest (omega arith) in
    rw (count, take_all 16 (rest text) size) refl

-- no last block, where all are whole
pub accumulated_all : (r : ℕ) (text : List ℕ) → length text % 16 ≡ 0
    → accumulated r text (length text / 16) ≡ accumulated r text (block_count text)
accumulated_all r text whole =
    let count : block_count text ≡ length text / 16 = omega arith in
    rw count refl

-- a summand may be taken modulo the prime first
pub absorbed_value : (next x h m r : ℕ) → next ≡ (x * r) % prime → x ≡ h + m → next ≡ ((h % prime + m) * r) % prime
absorbed_value next x h m r is parts =
    is ∙ ap (λ n. (n * r) % prime) parts
    ∙ sym (mul-mod_first (h + m) r prime)
    ∙ ap (λ n. (n * r) % prime) (sym (mod-add-mod h prime m))
    ∙ mul-mod_first (h % prime + m) r prime

-- the step of the accumulator, from the numbers of the limbs to those of the text
pub step : (next h m r before block factor : ℕ) → next ≡ ((h + m) * r) % prime
    → h ≡ before → m ≡ block → r ≡ factor → next ≡ ((before + block) * factor) % prime
step next h m r before block factor is same_h same_m same_r = rw (← same_h, ← same_m, ← same_r) is

-- the sum with s
pub summed : (h before s summand : ℕ) → h ≡ before → s ≡ summand → (h % 2 ^ 128 + s) % 2 ^ 128 ≡ (before + summand) % 2 ^ 128
summed h before s summand same_h same_s = rw (same_h, same_s) (mod-add-mod before (2 ^ 128) summand)

-- the front of a text, and the part that follows it
pub take_part : (text : List ℕ) (from size to : ℕ) → from + size ≡ to → take from text ++ take size (drop from text) ≡ take to text
take_part text from size to same = sym (take-add from size text) ∙ ap (λ n. take n text) same

-- a list whose end is written over
pub put_to_end : (a k : ℕ) (xs ys : List ℕ) → length xs ≤ a + k → put_mid a k xs ys ≡ take a xs ++ ys
put_to_end a k xs ys all =
    let none : drop k (drop a xs) ≡ [] = drop_all k (drop a xs) (rw length-drop (omega arith)) in
    ap (λ tail. take a xs ++ (ys ++ tail)) none ∙ (rw append-nil refl)
