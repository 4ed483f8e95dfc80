-- Where operations lead, and what they answer on the way.
use Rattle.std.proofs.Common.{◌≡◌, ℕ, ◌+◌, ◌≤◌, List, [], ◌∷◌, ◌++◌, length, take, drop, Option, Some, None, Result, Ok, Err, refl, sym, ◌∙◌, ap, arith, length-take, length-drop}
use Rattle.std.proofs.lemmas.Bool.Decides.{nat_tests}
use Rattle.std.proofs.lemmas.List.{drop-drop, drop_at, take-append-drop}
use lib.Seq.{take-add}
use Rattle.age_error.specs.declared.io.Error.{Error}
use Rattle.age_io.specs.Cursor.{moved_to, target, sought}
use Rattle.age_io.specs.Replies.{replies, reply, place_after, place_after_seek, place_after_all}
use Rattle.age_io.specs.declared.operations.Op.{Op}
use Rattle.age_io.specs.declared.operations.Op.TheVariants.{Read, Seek}

moved_to-within : (to : Option ℕ) (len n : ℕ) → moved_to to len ≡ Ok n → n ≤ len
moved_to-within None len n e = cc
moved_to-within (Some m) len n e = grind (arith, nat_tests)

place_after_seek-within : (answer : Result ℕ Error) (place len : ℕ) → place ≤ len → ((n : ℕ) → answer ≡ Ok n → n ≤ len) →
    place_after_seek answer place ≤ len
place_after_seek-within (Ok n) place len within moved = moved n refl
place_after_seek-within (Err e) place len within moved = within

place_after-within : (op : Op) (content : List ℕ) (place : ℕ) → place ≤ length content → place_after op content place ≤ length content
place_after-within (Read n) content place within = omega (arith, length-take n (drop place content), length-drop place content)
place_after-within (Seek to) content place within = place_after_seek-within (sought to place (length content)) place (length content)
    within (moved_to-within (target to place (length content)) (length content))

pub place_after_all-within : (ops : List Op) (content : List ℕ) (place : ℕ) → place ≤ length content →
    place_after_all ops content place ≤ length content
place_after_all-within [] content place within = within
place_after_all-within (op ∷ ops) content place within =
    place_after_all-within ops content (place_after op content place) (place_after-within op content place within)

pub replies-append : (first second : List Op) (content : List ℕ) (place : ℕ) →
    replies (first ++ second) content place ≡ replies first content place ++ replies second content (place_after_all first content place)
replies-append [] second content place = refl
replies-append (op ∷ first) second content place =
    ap (λ more. reply op content place ∷ more) (replies-append first second content (place_after op content place))

pub reads-append : (m n : ℕ) (content : List ℕ) (place : ℕ) →
    take m (drop place content) ++ take n (drop (place_after (Read m) content place) content) ≡ take (m + n) (drop place content)
reads-append m n content place =
    let rest = drop place content in
    let front = take m rest in
    let onward : drop (place + length front) content ≡ drop (length front) rest = sym (drop-drop (length front) place content) in
    let behind : drop (length front) rest ≡ drop m rest =
    ap (drop (length front)) (sym (take-append-drop m rest)) ∙ drop_at front (drop m rest) (length front) refl in
    ap (λ left. front ++ take n left) (onward ∙ behind) ∙ sym (take-add m n rest)
