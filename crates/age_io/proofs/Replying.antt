-- Answers so far, along a list of operations.
use Rattle.std.proofs.Common.{◌≡◌, ℕ, ◌+◌, List, [], ◌∷◌, ◌++◌, map, drop, subst, append_assoc}
use Rattle.std.proofs.lemmas.List.{map-append}
use Rattle.age_io.specs.Stretch.{Stretch, from_place}
use Rattle.age_io.specs.Replies.{seen, replies, Replied, place_after_all}
use Rattle.age_io.specs.declared.operations.Op.{Op}
use Rattle.age_io.specs.declared.operations.Answer.{Answer}

-- The answers so far, and a cursor's replies to what is left, are its replies to all, and what is left leads where all
-- lead.
pub record Answered (all left : List Op) (content : Stretch) (start : ℕ) (answers : List Answer) (place : ℕ) (rest : Stretch) : Type 0 where
  pub so_far : map seen answers ++ replies left content.bytes place ≡ replies all content.bytes start
  pub stands : rest ≡ from_place place content
  pub leads : place_after_all left content.bytes place ≡ place_after_all all content.bytes start

pub Answered-more : (all : List Op) (i : ℕ) (op : Op) (content : Stretch) (start : ℕ) (answers : List Answer) (a : Answer)
    (place new_place : ℕ) (rest new_rest : Stretch) → drop i all ≡ op ∷ drop (i + 1) all →
    Answered all (drop i all) content start answers place rest → Replied op content place new_place new_rest a →
    Answered all (drop (i + 1) all) content start (answers ++ a ∷ []) new_place new_rest
Answered-more all i op content start answers a place new_place rest new_rest here before replied =
    record {
      so_far =
          rw (map-append, replied.told, replied.moved, append_assoc)
          (subst (λ left. map seen answers ++ replies left content.bytes place ≡ replies all content.bytes start) here before.so_far);
      stands = replied.left;
      leads = rw replied.moved (subst (λ left. place_after_all left content.bytes place ≡ place_after_all all content.bytes start) here before.leads);
    }
