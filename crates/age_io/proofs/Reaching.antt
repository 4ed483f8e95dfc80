-- Reads along a content.
use Rattle.std.proofs.Common.{◌≡◌, ℕ, ◌+◌, ◌≤◌, List, [], ◌++◌, length, take, drop, refl, sym, ◌∙◌, ap, arith, subst, append-nil, length-append}
use Rattle.std.proofs.lemmas.List.{drop-drop, take-append-drop, take_all, take_at, drop_at}
use lib.Seq.{take-add}
use Rattle.age_io.specs.Stretch.{Stretch, from_place, stretch-ext}
use Rattle.age_io.specs.Reading.{Delivers}
use Rattle.age_io.specs.Replies.{Replied, gave, seen}
use Rattle.age_io.specs.declared.operations.Op.TheVariants.{Read}
use Rattle.age_io.specs.declared.operations.Answer.{Answer}

-- Reads from a start place have given these bytes, and the reader stands after them.
pub record Reached (content : Stretch) (start : ℕ) (got : List ℕ) (place : ℕ) (rest : Stretch) : Type 0 where
  pub given : got ≡ take (length got) (drop start content.bytes)
  pub moved : place ≡ start + length got
  pub left : rest ≡ from_place place content

-- a reader on a place of the content delivers what stands there
pub delivered-at : (content new : Stretch) (place : ℕ) (front : List ℕ) → Delivers front (from_place place content) new →
    (front ≡ take (length front) (drop place content.bytes)) × (new ≡ from_place (place + length front) content)
delivered-at content new place front d =
    let after : drop place content.bytes ≡ front ++ new.bytes = d.bytes in (
      rw (after, take_at front new.bytes (length front) refl) refl,
      stretch-ext new (from_place (place + length front) content)
          (sym (sym (drop-drop (length front) place content.bytes) ∙ ap (drop (length front)) after ∙ drop_at front new.bytes (length front) refl))
          d.end,
    )

joined-of : (a b x y z : List ℕ) → a ≡ x → b ≡ y → z ≡ x ++ y → a ++ b ≡ z
joined-of a b x y z p q r = cc

pub Reached-more : (content rest new : Stretch) (start place new_place : ℕ) (got more : List ℕ) → Reached content start got place rest →
    Delivers more rest new → new_place ≡ place + length more → Reached content start (got ++ more) new_place new
Reached-more content rest new start place new_place got more r d e =
    let d2 : Delivers more (from_place place content) new = subst (λ s. Delivers more s new) r.left d in
    let at = delivered-at content new place more d2 in
    let given : more ≡ take (length more) (drop (start + length got) content.bytes) = rw (← r.moved) at.0 in
    record {
      given =
          let onward : drop (start + length got) content.bytes ≡ drop (length got) (drop start content.bytes) =
          sym (drop-drop (length got) start content.bytes) in
          let joined = take-add (length got) (length more) (drop start content.bytes) in
          let more_given : more ≡ take (length more) (drop (length got) (drop start content.bytes)) = given ∙ ap (take (length more)) onward in
          rw length-append (joined-of got more _ _ _ r.given more_given joined);
      moved = rw length-append (omega arith);
      left = rw e at.1;
    }

-- all that was asked for, where that many bytes came
pub Reached-whole : (content rest : Stretch) (start place count : ℕ) (got : List ℕ) → Reached content start got place rest → length got ≡ count →
    got ≡ take count (drop start content.bytes)
Reached-whole content rest start place count got r is = r.given ∙ ap (λ n. take n (drop start content.bytes)) is

-- and where nothing is left
pub Reached-end : (content rest : Stretch) (start place count : ℕ) (got : List ℕ) → Reached content start got place rest → rest.bytes ≡ [] →
    length got ≤ count → got ≡ take count (drop start content.bytes)
Reached-end content rest start place count got r none most =
    let there = drop start content.bytes in
    let behind : drop (length got) there ≡ [] =
    drop-drop (length got) start content.bytes ∙ ap (λ n. drop n content.bytes) (sym r.moved) ∙ sym (ap (λ s. s.bytes) r.left) ∙ none in
    let all : there ≡ got =
    sym (take-append-drop (length got) there) ∙ ap (λ xs. take (length got) there ++ xs) behind ∙ append-nil (take (length got) there)
    ∙ sym r.given in
    sym (ap (take count) all ∙ take_all count got most)

-- so a cursor answers, which stands there then
pub Reached-replied : (content rest : Stretch) (start place count : ℕ) (got : List ℕ) (answer : Answer) → seen answer ≡ gave got →
    Reached content start got place rest → got ≡ take count (drop start content.bytes) → Replied (Read count) content start place rest answer
Reached-replied content rest start place count got answer is r whole = record {
  told = is ∙ ap gave whole;
  moved = r.moved ∙ ap (λ xs. start + length xs) whole;
  left = r.left;
}
